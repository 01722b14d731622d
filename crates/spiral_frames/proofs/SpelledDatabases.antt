-- The frame of a database passes every check, so that it is not refused.
use Rattle.std.proofs.Common.{◌≡◌, ℕ, ◌+◌, ◌*◌, ◌^◌, ◌<◌, ◌≤◌, false, ◌||◌, not, List, ◌∷◌, ◌++◌, length, get_or, take, drop, Option, Some, None, refl, ap, sym, ◌∙◌, arith, lit<, append_assoc, length-append, eq-eqb, ne_eqb, ◌≢◌}
use Rattle.std.specs.Prelude.{nat_eq, nat_lt}
use Rattle.std.proofs.lemmas.Bool.{le-ltb}
use Rattle.std.proofs.lemmas.List.{drop-drop, take_at, drop_at}
use Rattle.std.proofs.Math.Nat.{mul-le-mul}
use Rattle.negacyclic.specs.Digits.{number_of}
use Rattle.negacyclic.proofs.Digits.{length-digits}
use Rattle.spiral_sets.specs.declared.param_set.ParamSet.{ParamSet}
use Rattle.frame_headers.specs.declared.frame_error.FrameError.{FrameError}
use Rattle.spiral_sets.specs.Sets.{name_of, set_of, max_records, capacity}
use Rattle.spiral_model.specs.Databases.{RecordTable, IsTable, record_count}
use Rattle.frame_headers.specs.Headers.{header, number}
use Rattle.frame_headers.specs.declared.kind.FrameKind.TheVariants.{Database}
use Rattle.spiral_frames.specs.Frames.{database_body, database_message, IsOne}
use Rattle.frame_headers.specs.Checks.{Outcome, checked, passes, accepts, is_none, wrong_length, needed_in, kind_in, name_in, set_in, body_len_in, header_len_in, number_at, header_checks}
use Rattle.spiral_frames.specs.FrameChecks.{database_checks, after_header, front_outcome, database_refusal}
use Rattle.spiral_sets.proofs.SetBounds.{max_records-most, capacity-most}
use Rattle.frame_headers.proofs.HeaderLaws.{number_at_front, behind_number, length-header, header_parts}
use Rattle.spiral_sets.proofs.SetNames.{set_of_name}
use Rattle.frame_headers.proofs.Outcomes.{AllPass, passed_all, and_then, checked-append}
use Rattle.spiral_frames.proofs.FrameLaws.{database_frame_is}
use Rattle.spiral_frames.proofs.DatabaseFrames.{not_refused}

-- the numbers of a database fit their 8 bytes
pub numbers_fit : (count len size : ℕ) → count ≤ 4096 → len ≤ 49152 → size ≡ count * len → (count < 256 ^ 8) × ((len < 256 ^ 8) × (16 + size < 256 ^ 8))
numbers_fit count len size few short is =
    let product : count * len ≤ 4096 * 49152 = mul-le-mul few short in
    let large : 16 + 4096 * 49152 < 256 ^ 8 = lit< tt in
    (omega arith, (omega arith, omega arith))

pub right_length : (a most : ℕ) → 0 < a → a ≤ most → (nat_eq a 0 || nat_lt most a) ≡ false
right_length a most some few = let other : a ≢ 0 = omega arith in rw (ne_eqb a 0 other, le-ltb most a few) refl

module _ (x : List ℕ) (table : RecordTable) (one : IsOne Database x (database_message table)) where
  abbrev set : ParamSet
  set = table.set

  abbrev count : ℕ
  count = record_count table

  abbrev len : ℕ
  len = table.record_length

  -- how many bytes the body has, and the name
  abbrev body : ℕ
  body = 16 + length table.bytes

  abbrev n : ℕ
  n = length (name_of set)

  is : IsTable table
  is = one.spells.is

  fit : (count < 256 ^ 8) × ((len < 256 ^ 8) × (body < 256 ^ 8))
  fit =
      let few : count ≤ 4096 = omega (arith, max_records-most set is.known, is.count) in
      let short : len ≤ 49152 = omega (arith, capacity-most set is.known, is.record_length) in
      numbers_fit count len (length table.bytes) few short is.whole

  spelled_parts : x ≡ header 6 set body ++ database_body table
  spelled_parts = one.spells.spelled ∙ database_frame_is table

  body_parts : database_body table ≡ number 8 count ++ (number 8 len ++ table.bytes)
  unfolding database_body
  body_parts = append_assoc (number 8 count) (number 8 len) table.bytes

  -- ---- the parts of the frame, byte by byte and from their places

  parts : x ≡ 83 ∷ 80 ∷ 73 ∷ 82 ∷ 1 ∷ 6 ∷ n ∷ (name_of set ++ (number 8 body ++ database_body table))
  parts = spelled_parts ∙ header_parts 6 set body (database_body table)

  kind_is : get_or x 5 0 ≡ 6
  kind_is = ap (λ (l : List ℕ). get_or l 5 0) parts

  name_len : get_or x 6 0 ≡ n
  name_len = ap (λ (l : List ℕ). get_or l 6 0) parts

  name_is : name_in x ≡ name_of set
  name_is =
      ap (λ (k : ℕ). take k (drop 7 x)) name_len
      ∙ ap (λ (l : List ℕ). take n (drop 7 l)) parts
      ∙ take_at (name_of set) (number 8 body ++ database_body table) n refl

  set_is : set_in x ≡ Some set
  unfolding set_in
  set_is = ap set_of name_is ∙ set_of_name set is.known

  at_body : drop (7 + get_or x 6 0) x ≡ number 8 body ++ database_body table
  at_body =
      ap (λ (k : ℕ). drop (7 + k) x) name_len
      ∙ sym (drop-drop n 7 x)
      ∙ ap (λ (l : List ℕ). drop n (drop 7 l)) parts
      ∙ drop_at (name_of set) (number 8 body ++ database_body table) n refl

  at_count : drop (header_len_in x) x ≡ number 8 count ++ (number 8 len ++ table.bytes)
  at_count =
      let place : header_len_in x ≡ 7 + get_or x 6 0 + 8 = omega arith in
      ap (λ (k : ℕ). drop k x) place
      ∙ sym (drop-drop 8 (7 + get_or x 6 0) x)
      ∙ ap (drop 8) at_body
      ∙ behind_number 8 body (database_body table)
      ∙ body_parts

  at_len : drop (header_len_in x + 8) x ≡ number 8 len ++ table.bytes
  at_len = sym (drop-drop 8 (header_len_in x) x) ∙ ap (drop 8) at_count ∙ behind_number 8 count (number 8 len ++ table.bytes)

  body_is : body_len_in x ≡ body
  body_is = ap (λ (l : List ℕ). number_of 256 (take 8 l)) at_body ∙ number_at_front 8 body (database_body table) fit.1.1

  count_is : number_at x (header_len_in x) ≡ count
  count_is = ap (λ (l : List ℕ). number_of 256 (take 8 l)) at_count ∙ number_at_front 8 count (number 8 len ++ table.bytes) fit.0

  len_is : number_at x (header_len_in x + 8) ≡ len
  len_is = ap (λ (l : List ℕ). number_of 256 (take 8 l)) at_len ∙ number_at_front 8 len table.bytes fit.1.0

  length_body : length (database_body table) ≡ body
  length_body =
      ap length body_parts
      ∙ omega (
        arith,
        length-append (number 8 count) (number 8 len ++ table.bytes),
        length-append (number 8 len) table.bytes,
        length-digits 256 8 count,
        length-digits 256 8 len,
      )

  length_is : length x ≡ 15 + get_or x 6 0 + body
  length_is =
      omega (arith, ap length spelled_parts, length-append (header 6 set body) (database_body table), length-header 6 set body, length_body, name_len)

  -- ---- the checks

  product_is : body_len_in x ≡ 16 + number_at x (header_len_in x) * number_at x (header_len_in x + 8)
  product_is = body_is ∙ ap (λ (k : ℕ). 16 + k) is.whole ∙ rw (count_is, len_is) refl

  right_body : wrong_length (kind_in x) (body_len_in x) (needed_in (set_in x) (kind_in x)) ≡ false
  right_body = rw (set_is, kind_is, body_is) (le-ltb body 16 (omega arith))

  long : 30 + get_or x 6 0 < length x
  long = omega (arith, length_is)

  header_passes : AllPass (header_checks 64 x) (length x)
  unfolding header_checks
  header_passes =
      let m0 : not (nat_eq (get_or x 0 0) 83) ≡ false = ap (λ (l : List ℕ). not (nat_eq (get_or l 0 0) 83)) parts in
      let m1 : not (nat_eq (get_or x 1 0) 80) ≡ false = ap (λ (l : List ℕ). not (nat_eq (get_or l 1 0) 80)) parts in
      let m2 : not (nat_eq (get_or x 2 0) 73) ≡ false = ap (λ (l : List ℕ). not (nat_eq (get_or l 2 0) 73)) parts in
      let m3 : not (nat_eq (get_or x 3 0) 82) ≡ false = ap (λ (l : List ℕ). not (nat_eq (get_or l 3 0) 82)) parts in
      let version : not (nat_eq (get_or x 4 0) 1) ≡ false = ap (λ (l : List ℕ). not (nat_eq (get_or l 4 0) 1)) parts in
      let kind : not (accepts 64 (get_or x 5 0)) ≡ false = ap (λ (k : ℕ). not (accepts 64 k)) kind_is in
      let named : is_none (set_in x) ≡ false = ap is_none set_is in
      let far : 30 + get_or x 6 0 < length x = long in
      (omega arith, (m0, (omega arith, (m1, (omega arith, (m2, (omega arith, (m3, (omega arith, (version, (omega arith, (kind, (omega arith, (named, (omega arith, (right_body, tt))))))))))))))))

  numbers_pass : AllPass (database_checks set x) (length x)
  unfolding database_checks
  numbers_pass =
      let few : nat_lt (max_records set) (number_at x (header_len_in x)) ≡ false =
      ap (λ (k : ℕ). nat_lt (max_records set) k) count_is ∙ le-ltb (max_records set) count is.count in
      let right : (nat_eq (number_at x (header_len_in x + 8)) 0 || nat_lt (capacity set) (number_at x (header_len_in x + 8))) ≡ false =
      ap (λ (k : ℕ). nat_eq k 0 || nat_lt (capacity set) k) len_is ∙ right_length len (capacity set) is.some_length is.record_length in
      let product = ap not (eq-eqb (body_len_in x) (16 + number_at x (header_len_in x) * number_at x (header_len_in x + 8)) product_is) in
      let far : 30 + get_or x 6 0 < length x = long in
      (omega arith, (few, (omega arith, (right, (omega arith, (product, tt))))))

  all_passed : front_outcome x ≡ passes
  all_passed =
      ap (λ (named : Option ParamSet). checked (header_checks 64 x ++ after_header named x) (length x)) set_is
      ∙ checked-append (header_checks 64 x) (database_checks set x) (length x)
      ∙ ap (λ (o : Outcome). and_then o (checked (database_checks set x) (length x))) (passed_all (header_checks 64 x) (length x) header_passes)
      ∙ passed_all (database_checks set x) (length x) numbers_pass

  -- The frame of a database is not refused.
  pub spelled_not_refused : database_refusal x ≡ None
  spelled_not_refused = not_refused x all_passed (length_is ∙ omega (arith, body_is))

-- What is refused is the frame of no database.
pub refused_not_spelled : (x : List ℕ) (error : FrameError) → database_refusal x ≡ Some error → (table : RecordTable)
    → IsOne Database x (database_message table) → ⊥
refused_not_spelled x error refused table one = let none = spelled_not_refused x table one in cc
