-- A database in a file, from the front of the file and then the front of one byte more than the frame.
use Rattle.std.proofs.Common.{◌≡◌, ℕ, ◌+◌, ◌<◌, ◌≤◌, inl, inr, IsTrue, List, length, get_or, take, All, Some, None, Err, Result, refl, ap, sym, subst, ◌∙◌, arith, lit<}
use Rattle.std.proofs.lemmas.Bool.{cases_lt}
use Rattle.std.proofs.lemmas.List.{get_or-take, get_or_past, take_all}
use Rattle.std.proofs.lemmas.List.Elements.{All-get_or}
use Rattle.pir_io.specs.Files.{FilesSeen, content_of}
use Rattle.pir_io.specs.Reading.{OnlyRead}
use Rattle.frame_headers.specs.declared.frame_error.FrameError.{FrameError}
use Rattle.frame_headers.specs.declared.kind.FrameKind.TheVariants.{Database}
use Rattle.spiral_model.specs.Databases.{RecordTable}
use Rattle.spiral_frames.specs.Frames.{Message, IsOne}
use Rattle.spiral_frames.specs.Checks.{Outcome, passes, refuses, ends_before, header_len_in, body_len_in}
use Rattle.spiral_frames.specs.FrameChecks.{front_outcome, whole_refusal, database_refusal}
use Rattle.spiral_frames.proofs.DatabaseFrames.{same_outcome, never_ends, body_same, name_len_same, database_refusal_is, same_refusal, one_of_front}
use Rattle.spiral_frames.proofs.SpelledDatabases.{refused_not_spelled}
use Rattle.record_store.specs.declared.decoding.Front.{Front}
use Rattle.record_store.specs.declared.storing.DbError.{DbError}
use Rattle.record_store.specs.declared.storing.DbError.TheVariants.{Frame}
use Rattle.record_store.specs.Decoding.{refusal_by, HasNumbers}
use Rattle.record_store.specs.Storing.{ReadsDatabase}
use Rattle.record_store.proofs.Wholes.{frame_len_of}

-- ---- a refusal by the first bytes

refused_whole : (outcome : Outcome) (len size : ℕ) (error : FrameError) → refusal_by outcome size ≡ Some error → whole_refusal outcome len size ≡ Some error
refused_whole passes len size error h = absurd (cc)
refused_whole (refuses other) len size error h = h
refused_whole ends_before len size error h = h

pub refused_front : (x : List ℕ) (error : FrameError) → refusal_by (front_outcome x) (length x) ≡ Some error → database_refusal x ≡ Some error
refused_front x error h =
    database_refusal_is x ∙ refused_whole (front_outcome x) (header_len_in x + body_len_in x) (length x) error h

other_size : (outcome : Outcome) (a b : ℕ) (error : FrameError) → (outcome ≡ ends_before → ⊥) → refusal_by outcome a ≡ Some error
    → refusal_by outcome b ≡ Some error
other_size passes a b error never h = h
other_size (refuses other) a b error never h = h
other_size ends_before a b error never h = absurd (never refl)

byte_most : (xs : List ℕ) (i b : ℕ) → All (λ x. x < 256) xs → get_or xs i 0 ≡ b → b < 256
byte_most xs i b below is =
    elim (cases_lt i (length xs)) [
      | inl within ↦ let low : get_or xs i 0 < 256 = All-get_or (λ x. x < 256) xs i 0 within below in omega arith
      | inr past ↦ let none : get_or xs i 0 ≡ 0 = get_or_past xs i 0 past in omega arith
    ]

-- the longest name has 255 bytes, so that the first bytes hold the header and the numbers behind it
module _ (x front : List ℕ) (read : front ≡ take 286 x) (below : All (λ b. b < 256) front) where
  name_most : get_or x 6 0 < 256
  name_most =
      let same : get_or front 6 0 ≡ get_or x 6 0 = ap (λ (y : List ℕ). get_or y 6 0) read ∙ get_or-take 286 x 6 0 (lit< tt) in
      byte_most front 6 (get_or x 6 0) below same

  holds : header_len_in x + 16 ≤ 286
  holds = let most : get_or x 6 0 < 256 = name_most in omega arith

  front_is : front_outcome front ≡ front_outcome x
  front_is = ap front_outcome read ∙ same_outcome 286 x holds

  pub refused_early : (error : FrameError) → refusal_by (front_outcome front) (length front) ≡ Some error → database_refusal x ≡ Some error
  refused_early error h =
      let here : refusal_by (front_outcome x) (length front) ≡ Some error = ap (λ (o : Outcome). refusal_by o (length front)) (sym front_is) ∙ h in
      refused_front x error
      (elim (cases_lt 286 (length x)) [
        | inl longer ↦
            let le : 286 ≤ length x = omega arith in
            other_size (front_outcome x) (length front) (length x) error (never_ends 286 x holds le) here
        | inr shorter ↦
            ap (λ (y : List ℕ). refusal_by (front_outcome x) (length y)) (sym (take_all 286 x shorter) ∙ sym read) ∙ here
      ])

  -- ---- the whole frame, where the first bytes pass
  module _ (numbers : Front) (passed : front_outcome front ≡ passes) (has : HasNumbers front numbers) where
    whole_passed : front_outcome x ≡ passes
    whole_passed = sym front_is ∙ passed

    whole_body : body_len_in x ≡ body_len_in front
    whole_body = sym (ap body_len_in read ∙ body_same 286 x holds)

    whole_name : header_len_in x ≡ header_len_in front
    whole_name = ap (λ (k : ℕ). 15 + k) (sym (ap (λ (y : List ℕ). get_or y 6 0) read ∙ name_len_same 286 x holds))

    whole_len : header_len_in x + body_len_in x ≡ frame_len_of numbers
    whole_len = omega (arith, whole_body, whole_name, has.start, has.body)

    some_body : 16 ≤ body_len_in x
    some_body = omega (arith, whole_body, has.body)

    module _ (len : ℕ) (len_is : len ≡ frame_len_of numbers) (bytes : List ℕ) (again : bytes ≡ take (len + 1) x) where
      same : database_refusal bytes ≡ database_refusal x
      same = ap database_refusal again ∙ same_refusal x len whole_passed (whole_len ∙ sym len_is) some_body

      pub refused_late : (error : FrameError) → database_refusal bytes ≡ Some error → database_refusal x ≡ Some error
      refused_late error h = sym same ∙ h

      pub read_one : (m : Message) → IsOne Database bytes m × (database_refusal bytes ≡ None) → IsOne Database x m × (database_refusal x ≡ None)
      read_one m h = (
        one_of_front x len whole_passed (whole_len ∙ sym len_is) some_body m (subst (λ (y : List ℕ). IsOne Database y m) again h.0)
            (ap database_refusal (sym again) ∙ h.1),
        sym same ∙ h.1,
      )

-- ---- the answers of a read

pub read_refused : (old new : FilesSeen) (name : List ℕ) (result : Result RecordTable DbError) (error : DbError) (refusal : FrameError)
    → result ≡ Err error → error ≡ Frame refusal → OnlyRead old new → (IsTrue old.tells → database_refusal (content_of old name) ≡ Some refusal)
    → ReadsDatabase old new name result
read_refused old new name result error refusal is why only refused =
    let here : ReadsDatabase old new name (Err (Frame refusal)) =
    record { only = only; cause = refused; none = λ told. refused_not_spelled (content_of old name) refusal (refused told) } in
    subst (λ (r : Result RecordTable DbError). ReadsDatabase old new name r) (sym (is ∙ ap (λ (e : DbError). Err e) why)) here
