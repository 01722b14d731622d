use Rattle.std.proofs.Common.{◌≡◌, ◌∙◌, ap, sym, subst, arith, List, ℕ, All, Ok, length, ◌<◌, Some}
use Rattle.spiral_model.specs.Databases.{IsTable}
use Rattle.spiral_frames.specs.Frames.{IsOne, database_message}
use Rattle.spiral_frames.specs.FrameChecks.{front_outcome}
use Rattle.frame_headers.specs.declared.kind.FrameKind.TheVariants.{Database}
use Rattle.frame_headers.specs.declared.frame_error.FrameError.TheVariants.{Short, Extra}
use Rattle.record_store.specs.Decoding.{ReadsNumbers, refusal_by}
use Rattle.std.proofs.lemmas.Result.{err_from_is_err_and}
use Rattle.record_store.proofs.ReadingDatabases.{refused_front}
use Rattle.record_store.proofs.Wholes.{table_of, frame_len_of, decode_short, decode_longer, decode_table, decode_one, decode_passes}
use Rattle.record_store.proofs.decoding.decode.Goals as goal

pub returns-in_err-front : goal.returns-in_err-front
returns-in_err-front c =
    let p = err_from_is_err_and c.from_residual.result c.from_residual.ensures.1 in
    let refused = subst (λ (y : List ℕ). refusal_by (front_outcome y) (length y) ≡ Some c.in_err-front.field-0.0) c.deref.ensures.value
    c.in_err-front.ensures.reads in
    rw (p.1, p.2) (refused_front c.args.bytes.items c.in_err-front.field-0.0 refused)

pub returns-then-len-frame_len : goal.returns-then-len-frame_len
returns-then-len-frame_len c =
    let x = c.args.bytes.items in
    let front = c.in_ok-front.front in
    let read : ReadsNumbers x (front_outcome x) (Ok front) =
    subst (λ (y : List ℕ). ReadsNumbers y (front_outcome y) (Ok front)) c.deref.ensures.value c.in_ok-front.ensures.reads in
    decode_short x front read.0 read.1 (omega (arith, c.len.ensures, c.args.bytes.ok, c.frame_len-frame_len.ensures))
    ∙ ap (λ (y : List ℕ). Some (Short (length y))) (sym c.deref-then-len-frame_len.ensures.value)
    ∙ ap Some (sym c.short.ensures)

pub returns-then-len-frame_len-2 : goal.returns-then-len-frame_len-2
returns-then-len-frame_len-2 c =
    let x = c.args.bytes.items in
    let front = c.in_ok-front.front in
    let read : ReadsNumbers x (front_outcome x) (Ok front) =
    subst (λ (y : List ℕ). ReadsNumbers y (front_outcome y) (Ok front)) c.deref.ensures.value c.in_ok-front.ensures.reads in
    decode_longer x front read.0 read.1 (omega (arith, c.len-2.ensures, c.args.bytes.ok, c.frame_len-frame_len.ensures))
    ∙ ap (λ (k : ℕ). Some (Extra k)) (sym c.frame_len-frame_len.ensures)

pub invariant_of-result : goal.invariant_of-result
invariant_of-result c =
    let x = c.args.bytes.items in
    let front = c.in_ok-front.front in
    let read : ReadsNumbers x (front_outcome x) (Ok front) =
    subst (λ (y : List ℕ). ReadsNumbers y (front_outcome y) (Ok front)) c.deref.ensures.value c.in_ok-front.ensures.reads in
    let below : All (λ b. b < 256) x = subst (λ (y : List ℕ). All (λ b. b < 256) y) c.deref.ensures.value c.in_ok-front.ensures.are_bytes in
    subst (λ (records : List ℕ). IsTable (table_of front records)) (sym c.without_front.ensures)
    (decode_table x front read.0 read.1 (omega (arith, c.len.ensures, c.len-2.ensures, c.args.bytes.ok, c.frame_len-frame_len.ensures)) below)

pub returns : goal.returns
returns c =
    let x = c.args.bytes.items in
    let front = c.in_ok-front.front in
    let read : ReadsNumbers x (front_outcome x) (Ok front) =
    subst (λ (y : List ℕ). ReadsNumbers y (front_outcome y) (Ok front)) c.deref.ensures.value c.in_ok-front.ensures.reads in
    let below : All (λ b. b < 256) x = subst (λ (y : List ℕ). All (λ b. b < 256) y) c.deref.ensures.value c.in_ok-front.ensures.are_bytes in
    let whole : length x ≡ frame_len_of front = omega (arith, c.len.ensures, c.len-2.ensures, c.args.bytes.ok, c.frame_len-frame_len.ensures) in (
      subst (λ (records : List ℕ). IsOne Database x (database_message (table_of front records))) (sym c.without_front.ensures)
          (decode_one x front read.0 read.1 whole below),
      decode_passes x front read.0 read.1 whole below,
    )
