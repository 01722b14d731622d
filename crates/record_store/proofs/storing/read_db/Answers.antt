use Rattle.std.proofs.Common.{◌≡◌, ◌∙◌, ap, subst, ℕ, List, All, ◌<◌, ◌+◌, length, take, Some, Ok}
use Rattle.std.proofs.lemmas.Result.{err_from_is_err_and}
use Rattle.pir_io.specs.Files.{content_of}
use Rattle.pir_io.proofs.Kept.{same_content, still_told, then_only}
use Rattle.spiral_frames.specs.Frames.{database_message}
use Rattle.spiral_frames.specs.FrameChecks.{front_outcome}
use Rattle.record_store.specs.Decoding.{ReadsNumbers, refusal_by}
use Rattle.record_store.proofs.ReadingDatabases.{refused_early, refused_late, read_one, read_refused}
use Rattle.record_store.proofs.storing.read_db.Goals as goal

pub returns-in_err-read_numbers : goal.returns-in_err-read_numbers
returns-in_err-read_numbers g c =
    let front = c.in_ok-front.front.items in
    let error = c.in_err-read_numbers.field-0.0 in
    let p = err_from_is_err_and c.from_residual-in_err-read_numbers.result c.from_residual-in_err-read_numbers.ensures.1 in
    let refused = subst (λ (y : List ℕ). refusal_by (front_outcome y) (length y) ≡ Some error) c.deref.ensures.value c.in_err-read_numbers.ensures.reads in
    let below : All (λ b. b < 256) front = subst (λ (y : List ℕ). All (λ b. b < 256) y) c.deref.ensures.value c.in_err-read_numbers.ensures.are_bytes in
    let old = g.F.Files.seen c.args.files.now in
    read_refused old (g.F.Files.seen c.read_front.new.files) c.args.name.now c.from_residual-in_err-read_numbers.result p.0 error p.1 p.2
    c.in_ok-front.ensures.only (λ told. refused_early (content_of old c.args.name.now) front (c.in_ok-front.ensures.front told) below error refused)

pub returns-in_err-decode : goal.returns-in_err-decode
returns-in_err-decode g c =
    let old = g.F.Files.seen c.args.files.now in
    let mid = g.F.Files.seen c.read_front.new.files in
    let name = c.args.name.now in
    let front = c.in_ok-front.front.items in
    let numbers = c.in_ok-read_numbers.field-0 in
    let error = c.in_err-decode.field-0.0 in
    let p = err_from_is_err_and c.from_residual-in_err-decode.result c.from_residual-in_err-decode.ensures.1 in
    let read : ReadsNumbers front (front_outcome front) (Ok numbers) =
    subst (λ (y : List ℕ). ReadsNumbers y (front_outcome y) (Ok numbers)) c.deref.ensures.value c.in_ok-read_numbers.ensures.reads in
    let below : All (λ b. b < 256) front = subst (λ (y : List ℕ). All (λ b. b < 256) y) c.deref.ensures.value c.in_ok-read_numbers.ensures.are_bytes in
    let only = c.in_ok-front.ensures.only in
    read_refused old (g.F.Files.seen c.read_front-2.new.files) name c.from_residual-in_err-decode.result p.0 error p.1 p.2
    (then_only old mid (g.F.Files.seen c.read_front-2.new.files) only c.in_ok-bytes.ensures.only)
    (λ told.
    let again =
    c.in_ok-bytes.ensures.front (still_told old mid only.tells told)
    ∙ ap (take (c.frame_len-frame_len.result + 1)) (same_content old mid (only.keeps told) name) in
    refused_late (content_of old name) front (c.in_ok-front.ensures.front told) below numbers read.0 read.1 c.frame_len-frame_len.result
    c.frame_len-frame_len.ensures c.in_ok-bytes.bytes.items again error c.in_err-decode.ensures)

pub returns : goal.returns
returns g c =
    let old = g.F.Files.seen c.args.files.now in
    let mid = g.F.Files.seen c.read_front.new.files in
    let name = c.args.name.now in
    let front = c.in_ok-front.front.items in
    let numbers = c.in_ok-read_numbers.field-0 in
    let read : ReadsNumbers front (front_outcome front) (Ok numbers) =
    subst (λ (y : List ℕ). ReadsNumbers y (front_outcome y) (Ok numbers)) c.deref.ensures.value c.in_ok-read_numbers.ensures.reads in
    let below : All (λ b. b < 256) front = subst (λ (y : List ℕ). All (λ b. b < 256) y) c.deref.ensures.value c.in_ok-read_numbers.ensures.are_bytes in
    let only = c.in_ok-front.ensures.only in
    record {
      only = then_only old mid (g.F.Files.seen c.read_front-2.new.files) only c.in_ok-bytes.ensures.only;
      cause = λ told.
          let again =
          c.in_ok-bytes.ensures.front (still_told old mid only.tells told)
          ∙ ap (take (c.frame_len-frame_len.result + 1)) (same_content old mid (only.keeps told) name) in
          read_one (content_of old name) front (c.in_ok-front.ensures.front told) below numbers read.0 read.1 c.frame_len-frame_len.result
          c.frame_len-frame_len.ensures c.in_ok-bytes.bytes.items again (database_message c.in_ok-decode.field-0) c.in_ok-decode.ensures;
      none = tt;
    }
