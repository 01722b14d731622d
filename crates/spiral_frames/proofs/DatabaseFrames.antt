-- Database frames: the checks look at the first bytes alone, and bytes that pass them are the frame of a table.
use Rattle.std.proofs.Common.{◌≡◌, ℕ, ◌+◌, ◌-◌, ◌*◌, ◌/◌, ◌<◌, ◌≤◌, inl, inr, Bool, true, false, ◌||◌, not, List, [], ◌∷◌, ◌++◌, length, get_or, take, drop, All, Option, Some, None, refl, ap, sym, ◌∙◌, arith, append_assoc, length-take, min, eqb-true, ◌≢◌, lit<}
use Rattle.std.specs.Prelude.{nat_eq, nat_lt, if◌then◌else◌}
use Rattle.std.proofs.lemmas.Bool.{eqb-false, cases_lt, lt-ltb, le-ltb, ltb-false}
use Rattle.std.proofs.lemmas.List.{get_or-take, drop-take, drop-drop, length-drop, take_all, take-append-drop, take-take}
use Rattle.std.proofs.lemmas.List.Elements.{All-take, All-drop}
use Rattle.std.proofs.Math.Nat.{mul-div_cancel}
use Rattle.negacyclic.specs.Digits.{number_of}
use Rattle.spiral_sets.specs.declared.param_set.ParamSet.{ParamSet}
use Rattle.frame_headers.specs.declared.frame_error.FrameError.{FrameError}
use Rattle.frame_headers.specs.declared.frame_error.FrameError.TheVariants.{Short, Extra}
use Rattle.spiral_sets.specs.Sets.{name_of, max_records, capacity, set_of}
use Rattle.spiral_model.specs.Databases.{RecordTable, IsTable, record_count}
use Rattle.frame_headers.specs.Headers.{header, number}
use Rattle.frame_headers.specs.declared.kind.FrameKind.TheVariants.{Database}
use Rattle.spiral_frames.specs.Frames.{database_body, frame_of, Message, database_message, IsOne}
use Rattle.frame_headers.specs.Checks.{Check, Outcome, checked, passes, refuses, ends_before, accepts, set_in, name_in, name_len_in, body_len_in, header_len_in, number_at, header_checks}
use Rattle.spiral_frames.specs.FrameChecks.{database_checks, after_header, front_checks, front_outcome, whole_refusal, database_refusal}
use Rattle.frame_headers.proofs.HeaderLaws.{header_parts, number_is}
use Rattle.spiral_frames.proofs.FrameLaws.{only_front, database_frame_is}
use Rattle.frame_headers.proofs.Outcomes.{AllPass, all_pass, AllBefore, checked-size, kind_is_6, set_in-named}

-- ---- the checks look at the first bytes alone

pub piece : (limit : ℕ) (x : List ℕ) (place count : ℕ) → place + count ≤ limit → take count (drop place (take limit x)) ≡ take count (drop place x)
piece limit x place count fits =
    let room : limit ≡ place + (limit - place) = omega arith in
    let few : count ≤ limit - place = omega arith in
    ap (λ (l : ℕ). take count (drop place (take l x))) room
    ∙ ap (take count) (drop-take place (limit - place) x)
    ∙ take-take count (limit - place) (drop place x) few

number_same : (limit : ℕ) (x : List ℕ) (place : ℕ) → place + 8 ≤ limit → number_at (take limit x) place ≡ number_at x place
number_same limit x place fits = ap (number_of 256) (piece limit x place 8 fits)

set_same : (x y : List ℕ) → name_in x ≡ name_in y → set_in x ≡ set_in y
unfolding set_in
set_same x y e = ap set_of e

not_ending : (fails : Bool) (error : FrameError) (rest : Outcome) → (if fails then refuses error else rest) ≡ ends_before → rest ≡ ends_before
not_ending true error rest h = absurd (cc)
not_ending false error rest h = h

-- checks that are decided before a size never reach the end of an input so long
pub decided_all : (checks : List Check) (limit size : ℕ) → limit ≤ size → AllBefore checks limit → checked checks size ≡ ends_before → ⊥
unfolding checked
decided_all [] limit size le before h = cc
decided_all (check ∷ checks) limit size le before h =
    let decided : check.decided_at < size = omega (arith, before.0) in
    let here : nat_lt check.decided_at size ≡ true = lt-ltb check.decided_at size decided in
    let tested = rw here at h in
    decided_all checks limit size le before.1 (not_ending check.fails check.refusal (checked checks size) tested)

module _ (limit : ℕ) (x : List ℕ) (whole : header_len_in x + 16 ≤ limit) where
  abbrev front : List ℕ
  front = take limit x

  byte_same : (i : ℕ) → i < 7 → get_or front i 0 ≡ get_or x i 0
  byte_same i low = get_or-take limit x i 0 (omega arith)

  pub name_len_same : name_len_in front ≡ name_len_in x
  name_len_same = byte_same 6 (lit< tt)

  number_at_same : (more : ℕ) → more ≤ get_or x 6 0 + 23 → number_at front more ≡ number_at x more
  number_at_same more le = number_same limit x more (omega arith)

  pub body_same : body_len_in front ≡ body_len_in x
  body_same = ap (λ (k : ℕ). number_at front (7 + k)) name_len_same ∙ number_at_same (7 + get_or x 6 0) (omega arith)

  count_same : number_at front (header_len_in front) ≡ number_at x (header_len_in x)
  count_same = ap (λ (k : ℕ). number_at front (15 + k)) name_len_same ∙ number_at_same (15 + get_or x 6 0) (omega arith)

  len_same : number_at front (header_len_in front + 8) ≡ number_at x (header_len_in x + 8)
  len_same = ap (λ (k : ℕ). number_at front (15 + k + 8)) name_len_same ∙ number_at_same (15 + get_or x 6 0 + 8) (omega arith)

  named_same : set_in front ≡ set_in x
  named_same = set_same front x (ap (λ (k : ℕ). take k (drop 7 front)) name_len_same ∙ piece limit x 7 (get_or x 6 0) (omega arith))

  header_same : header_checks 64 front ≡ header_checks 64 x
  unfolding header_checks
  header_same =
      let b0 = byte_same 0 (lit< tt) in
      let b1 = byte_same 1 (lit< tt) in
      let b2 = byte_same 2 (lit< tt) in
      let b3 = byte_same 3 (lit< tt) in
      let b4 = byte_same 4 (lit< tt) in
      let b5 = byte_same 5 (lit< tt) in
      rw (body_same, named_same, b0, b1, b2, b3, b4, b5, name_len_same) refl

  numbers_same : (set : ParamSet) → database_checks set front ≡ database_checks set x
  unfolding database_checks
  numbers_same set = rw (body_same, count_same, len_same, name_len_same) refl

  after_same : (named : Option ParamSet) → after_header named front ≡ after_header named x
  after_same (Some set) = numbers_same set
  after_same None = refl

  checks_same : front_checks front ≡ front_checks x
  checks_same = ap (λ (named : Option ParamSet). header_checks 64 front ++ after_header named front) named_same
      ∙ ap (λ (more : List Check). header_checks 64 front ++ more) (after_same (set_in x))
      ∙ ap (λ (first : List Check). first ++ after_header (set_in x) x) header_same

  after_before : (named : Option ParamSet) → AllBefore (after_header named x) limit
  unfolding database_checks
  after_before (Some set) = (omega arith, (omega arith, (omega arith, tt)))
  after_before None = tt

  all_before : AllBefore (front_checks x) limit
  unfolding header_checks
  all_before =
      (omega arith, (omega arith, (omega arith, (omega arith, (omega arith, (omega arith, (omega arith, (omega arith, after_before (set_in x)))))))))

  -- A front that holds a header and the two numbers behind it decides what the checks find.
  pub same_outcome : front_outcome front ≡ front_outcome x
  same_outcome =
      elim (cases_lt limit (length x)) [
        | inl longer ↦
            let size : length front ≡ limit = length-take limit x ∙ omega arith in
            let before : AllBefore (front_checks x) limit = all_before in
            let le : limit ≤ length x = omega arith in
            ap (λ (checks : List Check). checked checks (length front)) checks_same
            ∙ ap (checked (front_checks x)) size
            ∙ checked-size (front_checks x) limit (length x) le before
        | inr shorter ↦ ap front_outcome (take_all limit x shorter)
      ]

  -- Then the input doesn't end before a check.
  pub never_ends : limit ≤ length x → front_outcome x ≡ ends_before → ⊥
  never_ends le h = decided_all (front_checks x) limit (length x) le all_before h

-- ---- what passes the checks

pub not_false : (b : Bool) → not b ≡ false → b ≡ true
not_false true h = refl
not_false false h = absurd (cc)

pub same_number : (a b : ℕ) → not (nat_eq a b) ≡ false → a ≡ b
same_number a b h = eqb-true a b (not_false (nat_eq a b) h)

pub neither : (a b : Bool) → (a || b) ≡ false → (a ≡ false) × (b ≡ false)
neither true b h = absurd (cc)
neither false b h = (refl, h)

pub some_from_test : (a : ℕ) → nat_eq a 0 ≡ false → 0 < a
some_from_test a h = let no : a ≢ 0 = eqb-false a 0 h in omega arith

-- the bytes begin with the header of a database of this set and with two numbers that suit its body length
pub record HasPassed (x : List ℕ) (set : ParamSet) : Type 0 where
  pub b0 : get_or x 0 0 ≡ 83
  pub b1 : get_or x 1 0 ≡ 80
  pub b2 : get_or x 2 0 ≡ 73
  pub b3 : get_or x 3 0 ≡ 82
  pub version : get_or x 4 0 ≡ 1
  pub kind : get_or x 5 0 ≡ 6
  pub long : header_len_in x + 15 < length x
  pub count : number_at x (header_len_in x) ≤ max_records set
  pub some_length : 0 < number_at x (header_len_in x + 8)
  pub record_length : number_at x (header_len_in x + 8) ≤ capacity set
  pub body : body_len_in x ≡ 16 + number_at x (header_len_in x) * number_at x (header_len_in x + 8)

module _ (x : List ℕ) (set : ParamSet) where
  all_passed : AllPass (header_checks 64 x ++ database_checks set x) (length x) → HasPassed x set
  unfolding header_checks database_checks
  all_passed h =
      let h1 = h.1.1 in
      let h2 = h1.1.1 in
      let h3 = h2.1.1 in
      let h4 = h3.1.1 in
      let h5 = h4.1.1 in
      let h6 = h5.1.1 in
      let h7 = h6.1.1 in
      let h8 = h7.1.1 in
      let h9 = h8.1.1 in
      let h10 = h9.1.1 in
      let wrong = neither (nat_eq (number_at x (header_len_in x + 8)) 0) (nat_lt (capacity set) (number_at x (header_len_in x + 8))) h9.1.0 in
      record {
        b0 = same_number (get_or x 0 0) 83 h.1.0;
        b1 = same_number (get_or x 1 0) 80 h1.1.0;
        b2 = same_number (get_or x 2 0) 73 h2.1.0;
        b3 = same_number (get_or x 3 0) 82 h3.1.0;
        version = same_number (get_or x 4 0) 1 h4.1.0;
        kind = kind_is_6 (get_or x 5 0) (not_false (accepts 64 (get_or x 5 0)) h5.1.0);
        long = h9.0;
        count = ltb-false (max_records set) (number_at x (header_len_in x)) h8.1.0;
        some_length = some_from_test (number_at x (header_len_in x + 8)) wrong.0;
        record_length = ltb-false (capacity set) (number_at x (header_len_in x + 8)) wrong.1;
        body = same_number (body_len_in x) (16 + number_at x (header_len_in x) * number_at x (header_len_in x + 8)) h10.1.0;
      }

  pub has_passed : set_in x ≡ Some set → front_outcome x ≡ passes → HasPassed x set
  has_passed named passed =
      let here : checked (header_checks 64 x ++ database_checks set x) (length x) ≡ passes =
      ap (λ (named : Option ParamSet). checked (header_checks 64 x ++ after_header named x) (length x)) (sym named) ∙ passed in
      all_passed (all_pass (header_checks 64 x ++ database_checks set x) (length x) here)

-- ---- bytes that pass are the frame of a table

pub seven : (x : List ℕ) (a0 a1 a2 a3 a4 a5 a6 : ℕ) → 7 ≤ length x → get_or x 0 0 ≡ a0 → get_or x 1 0 ≡ a1 → get_or x 2 0 ≡ a2 → get_or x 3 0 ≡ a3
    → get_or x 4 0 ≡ a4 → get_or x 5 0 ≡ a5 → get_or x 6 0 ≡ a6 → x ≡ a0 ∷ a1 ∷ a2 ∷ a3 ∷ a4 ∷ a5 ∷ a6 ∷ drop 7 x
seven (c0 ∷ c1 ∷ c2 ∷ c3 ∷ c4 ∷ c5 ∷ c6 ∷ rest) a0 a1 a2 a3 a4 a5 a6 long e0 e1 e2 e3 e4 e5 e6 = cc
seven (c0 ∷ c1 ∷ c2 ∷ c3 ∷ c4 ∷ c5 ∷ []) a0 a1 a2 a3 a4 a5 a6 long e0 e1 e2 e3 e4 e5 e6 = absurd (omega arith)
seven (c0 ∷ c1 ∷ c2 ∷ c3 ∷ c4 ∷ []) a0 a1 a2 a3 a4 a5 a6 long e0 e1 e2 e3 e4 e5 e6 = absurd (omega arith)
seven (c0 ∷ c1 ∷ c2 ∷ c3 ∷ []) a0 a1 a2 a3 a4 a5 a6 long e0 e1 e2 e3 e4 e5 e6 = absurd (omega arith)
seven (c0 ∷ c1 ∷ c2 ∷ []) a0 a1 a2 a3 a4 a5 a6 long e0 e1 e2 e3 e4 e5 e6 = absurd (omega arith)
seven (c0 ∷ c1 ∷ []) a0 a1 a2 a3 a4 a5 a6 long e0 e1 e2 e3 e4 e5 e6 = absurd (omega arith)
seven (c0 ∷ []) a0 a1 a2 a3 a4 a5 a6 long e0 e1 e2 e3 e4 e5 e6 = absurd (omega arith)
seven [] a0 a1 a2 a3 a4 a5 a6 long e0 e1 e2 e3 e4 e5 e6 = absurd (omega arith)

pub cut : (x : List ℕ) (place count next : ℕ) → place + count ≡ next → drop place x ≡ take count (drop place x) ++ drop next x
cut x place count next e =
    sym (take-append-drop count (drop place x))
    ∙ ap (λ (rest : List ℕ). take count (drop place x) ++ rest) (drop-drop count place x ∙ ap (λ (k : ℕ). drop k x) e)

pub number_there : (x : List ℕ) (place : ℕ) → All (λ b. b < 256) x → place + 8 ≤ length x → take 8 (drop place x) ≡ number 8 (number_at x place)
number_there x place below within =
    let few : length (take 8 (drop place x)) ≡ 8 = simp (length-take, length-drop) (omega arith) in
    number_is 8 (number_at x place) (take 8 (drop place x)) few (All-take (λ b. b < 256) 8 (drop place x) (All-drop (λ b. b < 256) place x below)) refl

-- pieces one behind another
tail_of : (rest r1 r2 r3 r4 p0 p1 p2 p3 q0 q1 q2 q3 : List ℕ) → rest ≡ p0 ++ r1 → r1 ≡ p1 ++ r2 → r2 ≡ p2 ++ r3 → r3 ≡ p3 ++ r4
    → p0 ≡ q0 → p1 ≡ q1 → p2 ≡ q2 → p3 ≡ q3 → rest ≡ q0 ++ (q1 ++ (q2 ++ (q3 ++ r4)))
tail_of rest r1 r2 r3 r4 p0 p1 p2 p3 q0 q1 q2 q3 c0 c1 c2 c3 e0 e1 e2 e3 = cc

-- the table in bytes of this set
abbrev pub table_in : List ℕ → ParamSet → RecordTable
table_in x set = record { set = set; record_length = number_at x (header_len_in x + 8); bytes = drop (header_len_in x + 16) x }

module _ (x : List ℕ) (set : ParamSet) (below : All (λ b. b < 256) x) (named : set_in x ≡ Some set) (has : HasPassed x set)
    (whole : length x ≡ header_len_in x + body_len_in x) where
  abbrev n : ℕ
  n = get_or x 6 0

  abbrev count : ℕ
  count = number_at x (header_len_in x)

  abbrev len : ℕ
  len = number_at x (header_len_in x + 8)

  abbrev records : List ℕ
  records = drop (header_len_in x + 16) x

  records_len : length records ≡ count * len
  records_len = length-drop (header_len_in x + 16) x ∙ omega (arith, has.body)

  count_is : record_count (table_in x set) ≡ count
  count_is = ap (λ (k : ℕ). k / len) records_len ∙ mul-div_cancel count has.some_length

  pub is_table : IsTable (table_in x set)
  is_table = record {
    known = (set_in-named x set named).known;
    some_length = has.some_length;
    record_length = has.record_length;
    whole = records_len ∙ ap (λ (k : ℕ). k * len) (sym count_is);
    count = omega (arith, count_is, has.count);
    are_bytes = All-drop (λ b. b < 256) (header_len_in x + 16) x below;
  }

  name_is : take n (drop 7 x) ≡ name_of set
  name_is = (set_in-named x set named).name_is

  name_len : get_or x 6 0 ≡ length (name_of set)
  name_len =
      let long : n ≤ length (drop 7 x) = omega (arith, length-drop 7 x, has.long) in
      sym (length-take n (drop 7 x) ∙ omega arith) ∙ ap length name_is

  tail_is : drop 7 x ≡ name_of set ++ (number 8 (body_len_in x) ++ (number 8 count ++ (number 8 len ++ records)))
  tail_is =
      let c0 : drop 7 x ≡ take n (drop 7 x) ++ drop (7 + n) x = cut x 7 n (7 + n) refl in
      let c1 : drop (7 + n) x ≡ take 8 (drop (7 + n) x) ++ drop (15 + n) x = cut x (7 + n) 8 (15 + n) (omega arith) in
      let c2 : drop (15 + n) x ≡ take 8 (drop (15 + n) x) ++ drop (15 + n + 8) x = cut x (15 + n) 8 (15 + n + 8) refl in
      let c3 : drop (15 + n + 8) x ≡ take 8 (drop (15 + n + 8) x) ++ records = cut x (15 + n + 8) 8 (15 + n + 16) (omega arith) in
      let n1 : take 8 (drop (7 + n) x) ≡ number 8 (body_len_in x) = number_there x (7 + n) below (omega (arith, has.long)) in
      let n2 : take 8 (drop (15 + n) x) ≡ number 8 count = number_there x (15 + n) below (omega (arith, has.long)) in
      let n3 : take 8 (drop (15 + n + 8) x) ≡ number 8 len = number_there x (15 + n + 8) below (omega (arith, has.long)) in
      tail_of _ _ _ _ _ _ _ _ _ _ _ _ _ c0 c1 c2 c3 name_is n1 n2 n3

  spelled_parts : x ≡ header 6 set (16 + length records) ++ database_body (table_in x set)
  unfolding database_body
  spelled_parts =
      let front : x ≡ 83 ∷ 80 ∷ 73 ∷ 82 ∷ 1 ∷ 6 ∷ length (name_of set) ∷ drop 7 x =
      seven x 83 80 73 82 1 6 (length (name_of set)) (omega (arith, has.long)) has.b0 has.b1 has.b2 has.b3 has.version has.kind name_len in
      let body : 16 + length records ≡ body_len_in x = omega (arith, records_len, has.body) in
      front
      ∙ ap (λ (t : List ℕ). 83 ∷ 80 ∷ 73 ∷ 82 ∷ 1 ∷ 6 ∷ length (name_of set) ∷ t) tail_is
      ∙ sym (header_parts 6 set (body_len_in x) (number 8 count ++ (number 8 len ++ records)))
      ∙ ap (λ (k : ℕ). header 6 set k ++ (number 8 count ++ (number 8 len ++ records))) (sym body)
      ∙ ap (λ (t : List ℕ). header 6 set (16 + length records) ++ t)
      (sym (append_assoc (number 8 count) (number 8 len) records) ∙ ap (λ (k : ℕ). (number 8 k ++ number 8 len) ++ records) (sym count_is))

  pub spelled : x ≡ frame_of (database_message (table_in x set))
  spelled = spelled_parts ∙ sym (database_frame_is (table_in x set))

  pub is_one : IsOne Database x (database_message (table_in x set))
  is_one = record { kind_is = refl; spells = record { is = is_table; spelled = spelled } }

-- ---- the refusal of a whole input

pub database_refusal_is : (x : List ℕ) → database_refusal x ≡ whole_refusal (front_outcome x) (header_len_in x + body_len_in x) (length x)
unfolding database_refusal
database_refusal_is x = refl

-- of an input whose checks pass
module _ (x : List ℕ) (passed : front_outcome x ≡ passes) where
  refusal_of : database_refusal x ≡ whole_refusal passes (header_len_in x + body_len_in x) (length x)
  refusal_of = database_refusal_is x ∙ ap (λ (o : Outcome). whole_refusal o (header_len_in x + body_len_in x) (length x)) passed

  pub short_refused : length x < header_len_in x + body_len_in x → database_refusal x ≡ Some (Short (length x))
  short_refused h = refusal_of ∙ rw (lt-ltb (length x) (header_len_in x + body_len_in x) h) refl

  pub longer_refused : header_len_in x + body_len_in x < length x → database_refusal x ≡ Some (Extra (header_len_in x + body_len_in x))
  longer_refused h =
      let le : header_len_in x + body_len_in x ≤ length x = omega arith in
      refusal_of ∙ rw (le-ltb (length x) (header_len_in x + body_len_in x) le, lt-ltb (header_len_in x + body_len_in x) (length x) h) refl

  pub not_refused : length x ≡ header_len_in x + body_len_in x → database_refusal x ≡ None
  not_refused h =
      let le : header_len_in x + body_len_in x ≤ length x = omega arith in
      let ge : length x ≤ header_len_in x + body_len_in x = omega arith in
      refusal_of ∙ rw (le-ltb (length x) (header_len_in x + body_len_in x) le, le-ltb (header_len_in x + body_len_in x) (length x) ge) refl

-- ---- the front of one byte more than the frame has

whole_none : (len size : ℕ) → whole_refusal passes len size ≡ None → size ≡ len
whole_none len size h =
    elim (cases_lt size len) [
      | inl short ↦ let few : nat_lt size len ≡ true = lt-ltb size len short in let no = rw few at h in absurd (cc)
      | inr enough ↦
          elim (cases_lt len size) [
            | inl longer ↦
                let few : nat_lt size len ≡ false = le-ltb size len enough in
                let more : nat_lt len size ≡ true = lt-ltb len size longer in
                let no = rw (few, more) at h in
                absurd (cc)
            | inr le ↦ omega arith
          ]
    ]

whole_same : (len size : ℕ) → whole_refusal passes len (min (len + 1) size) ≡ whole_refusal passes len size
whole_same len size =
    elim (cases_lt len size) [
      | inl longer ↦
          let front : min (len + 1) size ≡ len + 1 = omega arith in
          let le : len ≤ size = omega arith in
          let le1 : len ≤ len + 1 = omega arith in
          let lt1 : len < len + 1 = omega arith in
          rw (front, le-ltb (len + 1) len le1, lt-ltb len (len + 1) lt1, le-ltb size len le, lt-ltb len size longer) refl
      | inr le ↦ let all : min (len + 1) size ≡ size = omega arith in ap (whole_refusal passes len) all
    ]

module _ (x : List ℕ) (len : ℕ) (passed : front_outcome x ≡ passes) (is_len : header_len_in x + body_len_in x ≡ len) (some : 16 ≤ body_len_in x) where
  abbrev more : List ℕ
  more = take (len + 1) x

  holds_front : header_len_in x + 16 ≤ len + 1
  holds_front = omega arith

  more_passes : front_outcome more ≡ passes
  more_passes = same_outcome (len + 1) x holds_front ∙ passed

  more_len : header_len_in more + body_len_in more ≡ len
  more_len =
      let name : name_len_in more ≡ name_len_in x = name_len_same (len + 1) x holds_front in
      let body : body_len_in more ≡ body_len_in x = body_same (len + 1) x holds_front in
      omega arith

  refusal_more : database_refusal more ≡ whole_refusal passes len (length more)
  refusal_more = refusal_of more more_passes ∙ ap (λ (k : ℕ). whole_refusal passes k (length more)) more_len

  -- it is refused exactly as the whole
  pub same_refusal : database_refusal more ≡ database_refusal x
  same_refusal =
      refusal_more
      ∙ ap (whole_refusal passes len) (length-take (len + 1) x)
      ∙ whole_same len (length x)
      ∙ sym (refusal_of x passed ∙ ap (λ (k : ℕ). whole_refusal passes k (length x)) is_len)

  -- and where it is not, it is the whole
  pub one_of_front : (m : Message) → IsOne Database more m → database_refusal more ≡ None → IsOne Database x m
  one_of_front m is none =
      let size : length more ≡ len = whole_none len (length more) (sym refusal_more ∙ none) in
      let short : length (frame_of m) < len + 1 = omega (arith, ap length is.spells.spelled) in
      (only_front (len + 1) Database x m short).0 is
