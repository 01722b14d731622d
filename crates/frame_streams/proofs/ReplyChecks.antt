-- What the checks of a Reply's body find of the bytes that have come: the count is decided by the 8th, the record length by the 16th.
use Rattle.std.proofs.Common.{◌≡◌, ℕ, ◌+◌, ◌<◌, ◌≤◌, inl, inr, true, false, ◌||◌, List, [], ◌∷◌, ◌++◌, length, take, drop, refl, ◌∙◌, ap, arith, length-append, lt-ltb, le-ltb, eq-eqb, ne_eqb, ◌≢◌}
use Rattle.std.specs.Prelude.{nat_lt, nat_eq}
use Rattle.std.proofs.lemmas.Bool.{cases_lt}
use Rattle.negacyclic.specs.Digits.{number_of}
use Rattle.spiral_sets.specs.declared.param_set.ParamSet.{ParamSet}
use Rattle.spiral_sets.specs.Sets.{max_records, capacity}
use Rattle.frame_headers.specs.declared.frame_error.FrameError.TheVariants.{TooMany, RecordLength}
use Rattle.frame_headers.specs.declared.kind.FrameKind.TheVariants.{Reply}
use Rattle.frame_headers.specs.Checks.{Check, passes, refuses, ends_before, checked, number_at}
use Rattle.frame_headers.proofs.HeaderReading.{checked-ends, checked-fails, checked-passes, checked-none}
use Rattle.spiral_frames.specs.FrameChecks.{count_check, length_check, reply_checks}
use Rattle.frame_streams.specs.Heads.{header_of, found, NotRefused}
use Rattle.frame_streams.proofs.BehindHeaders.{header_len_found, behind_header, further_behind}

module _ (set : ParamSet) (body : List ℕ) where
  -- the count and the record length that the first 16 bytes write
  abbrev count : ℕ
  count = number_of 256 (take 8 body)

  abbrev record_length : ℕ
  record_length = number_of 256 (take 8 (drop 8 body))

  -- the frame so far, and where its body begins
  abbrev frame : List ℕ
  frame = header_of Reply set ++ body

  abbrev start : ℕ
  start = length (header_of Reply set)

  abbrev counted : Check
  counted = count_check set frame start

  abbrev measured : Check
  measured = length_check set frame start

  found_is : found Reply set body ≡ checked (counted ∷ measured ∷ []) (length frame)
  unfolding reply_checks
  found_is = ap (λ (s : ℕ). checked (count_check set frame s ∷ length_check set frame s ∷ []) (length frame)) (header_len_found Reply set body)

  size : length frame ≡ start + length body
  size = length-append (header_of Reply set) body

  count_is : number_at frame start ≡ count
  count_is = ap (λ (l : List ℕ). number_of 256 (take 8 l)) (behind_header Reply set body)

  record_length_is : number_at frame (start + 8) ≡ record_length
  record_length_is = ap (λ (l : List ℕ). number_of 256 (take 8 l)) (further_behind Reply set body 8)

  -- the count is wanting
  pub count_wanting : length body < 8 → found Reply set body ≡ ends_before
  count_wanting few = found_is ∙ checked-ends counted (measured ∷ []) (length frame) (omega (arith, size))

  module _ (some : 8 ≤ length body) where
    -- the count is over the number of records
    pub count_refused : max_records set < count → found Reply set body ≡ refuses (TooMany start count)
    count_refused large =
        let fails : nat_lt (max_records set) (number_at frame start) ≡ true = lt-ltb (max_records set) (number_at frame start) (omega (arith, count_is)) in
        found_is ∙ checked-fails counted (measured ∷ []) (length frame) (omega (arith, size)) fails ∙ ap (λ (n : ℕ). refuses (TooMany start n)) count_is

    module _ (few : count ≤ max_records set) where
      behind_count : found Reply set body ≡ checked (measured ∷ []) (length frame)
      behind_count =
          let fine : nat_lt (max_records set) (number_at frame start) ≡ false = le-ltb (max_records set) (number_at frame start) (omega (arith, count_is)) in
          found_is ∙ checked-passes counted (measured ∷ []) (length frame) (omega (arith, size)) fine

      -- the record length is wanting
      pub record_length_wanting : length body < 16 → found Reply set body ≡ ends_before
      record_length_wanting short = behind_count ∙ checked-ends measured [] (length frame) (omega (arith, size))

      module _ (all : 16 ≤ length body) where
        refused : (nat_eq (number_at frame (start + 8)) 0 || nat_lt (capacity set) (number_at frame (start + 8))) ≡ true
            → found Reply set body ≡ refuses (RecordLength (start + 8) record_length)
        refused fails =
            behind_count ∙ checked-fails measured [] (length frame) (omega (arith, size)) fails
            ∙ ap (λ (n : ℕ). refuses (RecordLength (start + 8) n)) record_length_is

        -- the record length is 0
        pub no_record_length_refused : record_length ≡ 0 → found Reply set body ≡ refuses (RecordLength (start + 8) record_length)
        no_record_length_refused none =
            let zero_read : number_at frame (start + 8) ≡ 0 = record_length_is ∙ none in
            refused (rw (eq-eqb (number_at frame (start + 8)) 0 zero_read) refl)

        -- it is over the capacity
        pub record_length_refused : 0 < record_length → capacity set < record_length → found Reply set body ≡ refuses (RecordLength (start + 8) record_length)
        record_length_refused some_length large =
            let other : number_at frame (start + 8) ≢ 0 = omega (arith, record_length_is) in
            let over : capacity set < number_at frame (start + 8) = omega (arith, record_length_is) in
            refused (rw (ne_eqb (number_at frame (start + 8)) 0 other, lt-ltb (capacity set) (number_at frame (start + 8)) over) refl)

        -- neither
        pub numbers_pass : 0 < record_length → record_length ≤ capacity set → found Reply set body ≡ passes
        numbers_pass some_length most =
            let other : number_at frame (start + 8) ≢ 0 = omega (arith, record_length_is) in
            let within : number_at frame (start + 8) ≤ capacity set = omega (arith, record_length_is) in
            let fine : (nat_eq (number_at frame (start + 8)) 0 || nat_lt (capacity set) (number_at frame (start + 8))) ≡ false =
            rw (ne_eqb (number_at frame (start + 8)) 0 other, le-ltb (capacity set) (number_at frame (start + 8)) within) refl in
            behind_count ∙ checked-passes measured [] (length frame) (omega (arith, size)) fine ∙ checked-none (length frame)

  ends_clean : found Reply set body ≡ ends_before → NotRefused Reply set body
  ends_clean ends error refused = cc

  passes_clean : found Reply set body ≡ passes → NotRefused Reply set body
  passes_clean passed error refused = cc

  -- A count and a record length within their bounds, as far as they have come, are not refused, whatever stands behind them.
  pub reply_clean : (8 ≤ length body → count ≤ max_records set) → (16 ≤ length body → (0 < record_length) × (record_length ≤ capacity set)) → NotRefused Reply set body
  reply_clean few right =
      elim (cases_lt (length body) 8) [
        | inl begun ↦ ends_clean (count_wanting begun)
        | inr some ↦
            elim (cases_lt (length body) 16) [
              | inl short ↦ ends_clean (record_length_wanting some (few some) short)
              | inr all ↦ passes_clean (numbers_pass some (few some) all (right all).0 (right all).1)
            ]
      ]
