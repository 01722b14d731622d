-- A whole input as a database's frame, from its first numbers.
use Rattle.std.proofs.Common.{◌≡◌, ℕ, ◌+◌, ◌*◌, ◌<◌, List, length, drop, All, Some, None, refl, ap, subst, ◌∙◌, arith}
use Rattle.frame_headers.specs.declared.frame_error.FrameError.TheVariants.{Short, Extra}
use Rattle.frame_headers.specs.declared.kind.FrameKind.TheVariants.{Database}
use Rattle.spiral_model.specs.Databases.{RecordTable, IsTable}
use Rattle.spiral_frames.specs.Frames.{IsOne, database_message}
use Rattle.spiral_frames.specs.Checks.{passes, header_len_in, body_len_in}
use Rattle.spiral_frames.specs.FrameChecks.{front_outcome, database_refusal}
use Rattle.spiral_frames.proofs.DatabaseFrames.{has_passed, table_in, is_table, is_one, short_refused, longer_refused, not_refused}
use Rattle.record_store.specs.declared.decoding.Front.{Front}
use Rattle.record_store.specs.Decoding.{HasNumbers}

-- the table that the numbers give
abbrev pub table_of : Front → List ℕ → RecordTable
table_of front records = record { set = front.set; record_length = front.length; bytes = records }

abbrev pub frame_len_of : Front → ℕ
frame_len_of front = front.start + front.count * front.length

module _ (x : List ℕ) (front : Front) (passed : front_outcome x ≡ passes) (has : HasNumbers x front) where
  pub frame_len_is : header_len_in x + body_len_in x ≡ frame_len_of front
  frame_len_is = omega (arith, has.start, has.body)

  pub decode_short : length x < frame_len_of front → database_refusal x ≡ Some (Short (length x))
  decode_short h = short_refused x passed (omega (arith, frame_len_is))

  pub decode_longer : frame_len_of front < length x → database_refusal x ≡ Some (Extra (frame_len_of front))
  decode_longer h = longer_refused x passed (omega (arith, frame_len_is)) ∙ ap (λ (k : ℕ). Some (Extra k)) frame_len_is

  module _ (whole : length x ≡ frame_len_of front) (below : All (λ b. b < 256) x) where
    whole_is : length x ≡ header_len_in x + body_len_in x
    whole_is = omega (arith, frame_len_is)

    same_table : table_in x front.set ≡ table_of front (drop front.start x)
    same_table = rw (has.record_length, has.start) refl

    pub decode_table : IsTable (table_of front (drop front.start x))
    decode_table =
        subst (λ (t : RecordTable). IsTable t) same_table (is_table x front.set below has.named (has_passed x front.set has.named passed) whole_is)

    pub decode_one : IsOne Database x (database_message (table_of front (drop front.start x)))
    decode_one =
        subst (λ (t : RecordTable). IsOne Database x (database_message t)) same_table
        (is_one x front.set below has.named (has_passed x front.set has.named passed) whole_is)

    pub decode_passes : database_refusal x ≡ None
    decode_passes = not_refused x passed whole_is
