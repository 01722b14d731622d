-- The first numbers of a database's frame, check by check.
use Rattle.std.proofs.Common.{◌≡◌, ◌≢◌, ℕ, ◌+◌, ◌*◌, ◌<◌, ◌≤◌, ◌⊎◌, inl, inr, true, false, ◌||◌, not, List, [], ◌∷◌, length, Option, Some, refl, ap, ◌∙◌, arith, lt-ltb, le-ltb, eq-eqb, ne_eqb, Fits, w64}
use Rattle.std.proofs.Math.Nat.{mul-le-mul}
use Rattle.std.specs.Prelude.{nat_eq, nat_lt}
use Rattle.spiral_sets.specs.declared.param_set.ParamSet.{ParamSet}
use Rattle.frame_headers.specs.declared.frame_error.FrameError.{FrameError}
use Rattle.frame_headers.specs.declared.frame_error.FrameError.TheVariants.{Short, RecordLength, TooMany, Ragged}
use Rattle.spiral_model.specs.Sets.{max_records, capacity}
use Rattle.spiral_frames.specs.Checks.{Check, Outcome, checked, passes, refuses, ends_before, header_checks, is_none, set_in, header_len_in, body_len_in, body_len_place, number_at}
use Rattle.spiral_frames.specs.FrameChecks.{database_checks, after_header, front_outcome}
use Rattle.frame_headers.proofs.HeaderReading.{checked-ends, checked-fails, checked-passes, checked-none}
use Rattle.frame_headers.proofs.Outcomes.{and_then, checked-append, AllPass, all_pass}
use Rattle.record_store.specs.Decoding.{refusal_by}

module _ (bytes : List ℕ) (set : ParamSet) where
  abbrev start : ℕ
  start = header_len_in bytes

  abbrev count : ℕ
  count = number_at bytes start

  abbrev len : ℕ
  len = number_at bytes (start + 8)

  -- the three checks
  abbrev many : Check
  many = record { decided_at = start + 7; fails = nat_lt (max_records set) count; refusal = TooMany start count }

  abbrev long : Check
  long = record { decided_at = start + 15; fails = nat_eq len 0 || nat_lt (capacity set) len; refusal = RecordLength (start + 8) len }

  abbrev ragged : Check
  ragged = record {
    decided_at = start + 15;
    fails = not (nat_eq (body_len_in bytes) (16 + count * len));
    refusal = Ragged (body_len_place bytes) (body_len_in bytes);
  }

  checks_are : database_checks set bytes ≡ many ∷ long ∷ ragged ∷ []
  unfolding database_checks
  checks_are = refl

  abbrev found : Outcome
  found = checked (database_checks set bytes) (length bytes)

  abbrev refused : Outcome → Option FrameError
  refused outcome = refusal_by outcome (length bytes)

  pub ends_in_count : length bytes < start + 8 → refused found ≡ Some (Short (length bytes))
  ends_in_count h = rw checks_are (ap refused (checked-ends many (long ∷ ragged ∷ []) (length bytes) (omega arith)))

  module _ (there : start + 8 ≤ length bytes) where
    pub too_many : max_records set < count → refused found ≡ Some (TooMany start count)
    too_many h = rw checks_are (ap refused (checked-fails many (long ∷ ragged ∷ []) (length bytes) (omega arith) (lt-ltb (max_records set) count h)))

    module _ (few : count ≤ max_records set) where
      behind_many : found ≡ checked (long ∷ ragged ∷ []) (length bytes)
      behind_many = rw checks_are (checked-passes many (long ∷ ragged ∷ []) (length bytes) (omega arith) (le-ltb (max_records set) count few))

      pub ends_in_length : length bytes < start + 16 → refused found ≡ Some (Short (length bytes))
      ends_in_length h = ap refused (behind_many ∙ checked-ends long (ragged ∷ []) (length bytes) (omega arith))

      module _ (both : start + 16 ≤ length bytes) where
        pub wrong_length : (nat_eq len 0 || nat_lt (capacity set) len) ≡ true → refused found ≡ Some (RecordLength (start + 8) len)
        wrong_length h = ap refused (behind_many ∙ checked-fails long (ragged ∷ []) (length bytes) (omega arith) h)

        module _ (right : (nat_eq len 0 || nat_lt (capacity set) len) ≡ false) where
          behind_long : found ≡ checked (ragged ∷ []) (length bytes)
          behind_long = behind_many ∙ checked-passes long (ragged ∷ []) (length bytes) (omega arith) right

          pub is_ragged : body_len_in bytes ≢ 16 + count * len → refused found ≡ Some (Ragged (body_len_place bytes) (body_len_in bytes))
          is_ragged h =
              ap refused (behind_long ∙ checked-fails ragged [] (length bytes) (omega arith) (ap not (ne_eqb (body_len_in bytes) (16 + count * len) h)))

          pub all_right : body_len_in bytes ≡ 16 + count * len → found ≡ passes
          all_right h =
              behind_long ∙ checked-passes ragged [] (length bytes) (omega arith) (ap not (eq-eqb (body_len_in bytes) (16 + count * len) h))
              ∙ checked-none (length bytes)

-- ---- the tests of a record length

pub no_length : (a most : ℕ) → (a ≡ 0) ⊎ (most < a) → (nat_eq a 0 || nat_lt most a) ≡ true
no_length a most (inl none) = rw (eq-eqb a 0 none) refl
no_length a most (inr over) = let some : a ≢ 0 = omega arith in rw (ne_eqb a 0 some, lt-ltb most a over) refl

pub some_length : (a most : ℕ) → 0 < a → a ≤ most → (nat_eq a 0 || nat_lt most a) ≡ false
some_length a most some few = let ne : a ≢ 0 = omega arith in rw (ne_eqb a 0 ne, le-ltb most a few) refl

-- ---- the checks behind those of the header

module _ (bytes : List ℕ) where
  abbrev header_found : Outcome
  header_found = checked (header_checks 64 bytes) (length bytes)

  front_is : front_outcome bytes ≡ and_then header_found (checked (after_header (set_in bytes) bytes) (length bytes))
  front_is = checked-append (header_checks 64 bytes) (after_header (set_in bytes) bytes) (length bytes)

  pub header_ends : header_found ≡ ends_before → refusal_by (front_outcome bytes) (length bytes) ≡ Some (Short (length bytes))
  header_ends h =
      ap (λ (o : Outcome). refusal_by o (length bytes))
      (front_is ∙ ap (λ (o : Outcome). and_then o (checked (after_header (set_in bytes) bytes) (length bytes))) h)

  pub header_refuses : (error : FrameError) → header_found ≡ refuses error → refusal_by (front_outcome bytes) (length bytes) ≡ Some error
  header_refuses error h =
      ap (λ (o : Outcome). refusal_by o (length bytes))
      (front_is ∙ ap (λ (o : Outcome). and_then o (checked (after_header (set_in bytes) bytes) (length bytes))) h)

  pub header_passes : (set : ParamSet) → header_found ≡ passes → set_in bytes ≡ Some set
      → front_outcome bytes ≡ checked (database_checks set bytes) (length bytes)
  header_passes set h named =
      front_is
      ∙ ap (λ (o : Outcome). and_then o (checked (after_header (set_in bytes) bytes) (length bytes))) h
      ∙ ap (λ (named : Option ParamSet). checked (after_header named bytes) (length bytes)) named

-- a header that passes names a set
named_by_passing : (bytes : List ℕ) → AllPass (header_checks 64 bytes) (length bytes) → is_none (set_in bytes) ≡ false
unfolding header_checks
named_by_passing bytes h = h.1.1.1.1.1.1.1.1.1.1.1.1.1.0

pub passes_named : (bytes : List ℕ) → header_found bytes ≡ passes → is_none (set_in bytes) ≡ false
passes_named bytes h = named_by_passing bytes (all_pass (header_checks 64 bytes) (length bytes) h)

-- ---- the bytes of the records are few

pub product_few : (a b : ℕ) → a ≤ 4096 → b ≤ 49152 → a * b ≤ 4096 * 49152
product_few a b few small = mul-le-mul few small

pub product_fits : (a b : ℕ) → a ≤ 4096 → b ≤ 49152 → Fits w64 (a * b)
product_fits a b few small = let most : a * b ≤ 4096 * 49152 = product_few a b few small in omega arith

pub sum_fits : (a b : ℕ) → a ≤ 4096 → b ≤ 49152 → Fits w64 (16 + a * b)
sum_fits a b few small = let most : a * b ≤ 4096 * 49152 = product_few a b few small in omega arith
