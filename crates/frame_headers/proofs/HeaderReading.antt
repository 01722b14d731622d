-- Reading a header check by check, and the set of a name.
use Rattle.std.proofs.Common.{◌≡◌, ℕ, ◌+◌, ◌-◌, ◌/◌, ◌^◌, ◌<◌, ◌≤◌, true, false, not, List, [], ◌∷◌, length, get_or, take, drop, Some, None, refl, ap, sym, ◌∙◌, arith, lt-ltb, le-ltb, eq-eqb, ne_eqb, ◌≢◌, zero, suc, length-take, w64}
use Rattle.std.specs.Prelude.{slice_get, nat_eq}
use Rattle.std.specs.List.{AllByRecursion, range_with_len}
use Rattle.std.specs.Int.{from_le_bytes}
use Rattle.std.proofs.lemmas.List.{get_or-map, length-drop}
use Rattle.std.proofs.lemmas.List.FromFn.{get_or-range_with_len}
use Rattle.std.proofs.lemmas.Option.{get_or_from_slice_get}
use Rattle.std.proofs.lemmas.Slice.Eq.{bytes_eq-Decides}
use Rattle.std.proofs.Math.Nat.{pow-le-pow_right, div-eq_of_lt}
use lib.Pointwise.{pointwise}
use borrow.Author.Count.{below_more}
use Rattle.negacyclic.specs.Digits.{number_of}
use Rattle.negacyclic.proofs.Digits.{from_le_bytes-number_of}
use Rattle.spiral_sets.specs.declared.param_set.ParamSet.{ParamSet}
use Rattle.spiral_sets.specs.declared.sets.TheConstants.{SETS}
use Rattle.frame_headers.specs.declared.header.HeaderRead.{HeaderRead}
use Rattle.frame_headers.specs.declared.header.HeaderRead.TheVariants.{More, Refused, Whole}
use Rattle.frame_headers.specs.declared.frame_error.FrameError.TheVariants.{Magic, UnknownSet, Length}
use Rattle.spiral_sets.specs.Sets.{IsSet, name_of, names, named_among, set_of}
use Rattle.frame_headers.specs.Checks.{Check, Outcome, checked, ends_before, refuses, passes, header_read, read_by, accepts, magic_check, version_checks, version_check, kind_check, name_checks, name_check, body_check, header_checks, number_at, set_in, kind_in, needed_in, needed_of, wrong_length}
use Rattle.spiral_sets.proofs.SetNames.{set_of_name}

-- ---- one check after another

module _ (check : Check) (checks : List Check) (size : ℕ) where
  pub checked-ends : size ≤ check.decided_at → checked (check ∷ checks) size ≡ ends_before
  unfolding checked
  checked-ends h = rw (le-ltb check.decided_at size h) refl

  pub checked-fails : check.decided_at < size → check.fails ≡ true → checked (check ∷ checks) size ≡ refuses check.refusal
  unfolding checked
  checked-fails h fails = rw (lt-ltb check.decided_at size h, fails) refl

  pub checked-passes : check.decided_at < size → check.fails ≡ false → checked (check ∷ checks) size ≡ checked checks size
  unfolding checked
  checked-passes h fails = rw (lt-ltb check.decided_at size h, fails) refl

pub checked-none : (size : ℕ) → checked [] size ≡ passes
unfolding checked
checked-none size = refl

-- what a reader answers then
module _ (check : Check) (checks : List Check) (bytes : List ℕ) where
  pub read-ends : length bytes ≤ check.decided_at → More ≡ read_by (checked (check ∷ checks) (length bytes)) bytes
  read-ends h = ap (λ o. read_by o bytes) (sym (checked-ends check checks (length bytes) h))

  pub read-fails : check.decided_at < length bytes → check.fails ≡ true → Refused check.refusal ≡ read_by (checked (check ∷ checks) (length bytes)) bytes
  read-fails h fails = ap (λ o. read_by o bytes) (sym (checked-fails check checks (length bytes) h fails))

  pub read-passes : check.decided_at < length bytes → check.fails ≡ false → (answer : HeaderRead) → answer ≡ read_by (checked checks (length bytes)) bytes
      → answer ≡ read_by (checked (check ∷ checks) (length bytes)) bytes
  read-passes h fails answer is = is ∙ ap (λ o. read_by o bytes) (sym (checked-passes check checks (length bytes) h fails))

pub header_read_is : (kinds : ℕ) (bytes : List ℕ) → header_read bytes kinds ≡ read_by (checked (header_checks kinds bytes) (length bytes)) bytes
unfolding header_read
header_read_is kinds bytes = refl

-- the check of the magic number at a place
pub magic_at : (kinds : ℕ) (bytes : List ℕ) (place : ℕ) → place < 4
    → drop place (header_checks kinds bytes) ≡ magic_check bytes place (get_or (83 ∷ 80 ∷ 73 ∷ 82 ∷ []) place 0) ∷ drop (place + 1) (header_checks kinds bytes)
unfolding header_checks
magic_at kinds bytes zero h = refl
magic_at kinds bytes (suc zero) h = refl
magic_at kinds bytes (suc (suc zero)) h = refl
magic_at kinds bytes (suc (suc (suc zero))) h = refl
magic_at kinds bytes (suc (suc (suc (suc place)))) h = absurd (omega arith)

pub behind_magic : (kinds : ℕ) (bytes : List ℕ) → drop 4 (header_checks kinds bytes) ≡ version_checks kinds bytes
unfolding header_checks
behind_magic kinds bytes = refl

-- a byte has no bit 8 or above
pub no_such_kind : (kinds kind : ℕ) → kinds < 256 → 8 ≤ kind → false ≡ accepts kinds kind
no_such_kind kinds kind low high =
    let large : 2 ^ 8 ≤ 2 ^ kind = pow-le-pow_right (omega arith) high in
    let past : kinds / 2 ^ kind ≡ 0 = div-eq_of_lt (omega arith) in
    rw past refl

-- ---- numbers

pub number_read : (bytes piece : List ℕ) (place answer : ℕ) → place + 8 ≤ length bytes → piece ≡ take (place + 8 - place) (drop place bytes)
    → answer ≡ from_le_bytes w64 piece → answer ≡ number_at bytes place
number_read bytes piece place answer within is e =
    let count : place + 8 - place ≡ 8 = omega arith in
    let eight : piece ≡ take 8 (drop place bytes) = is ∙ ap (λ (k : ℕ). take k (drop place bytes)) count in
    let whole : length piece ≡ 8 = rw eight (simp (length-take, length-drop) (omega arith)) in
    e ∙ from_le_bytes-number_of w64 piece (omega arith) whole ∙ ap (number_of 256) eight

-- ---- names

named_none : (name : List ℕ) (others : List (List ℕ)) (sets : List ParamSet) → AllByRecursion (λ other. pointwise nat_eq name other ≡ false) others
    → named_among name others sets ≡ None
named_none name [] sets h = refl
named_none name (other ∷ others) [] h = refl
named_none name (other ∷ others) (set ∷ sets) h = rw h.0 (named_none name others sets h.1)

-- the name is none of the first `count` ones
abbrev pub Unnamed : List ℕ → ℕ → Type 0
Unnamed name count = (k : ℕ) → k < count → pointwise nat_eq name (get_or names k []) ≡ false

pub unnamed_all : (name : List ℕ) (count : ℕ) → 10 ≤ count → Unnamed name count → set_of name ≡ None
unnamed_all name count all h =
    named_none name names SETS
    (h 0 (omega arith), (h 1 (omega arith), (h 2 (omega arith), (h 3 (omega arith), (h 4 (omega arith), (h 5 (omega arith), (h 6 (omega arith), (h 7 (omega arith), (h 8 (omega arith), (h 9 (omega arith), tt))))))))))

pub id_at : (i : ℕ) (set : ParamSet) → i < 10 → slice_get SETS i ≡ Some set → set.id ≡ i
id_at i set low at =
    let row : get_or SETS i set ≡ set = get_or_from_slice_get SETS i set set at in
    let ids : get_or (range_with_len 0 10) i 0 ≡ (get_or SETS i set).id = get_or-map (λ (s : ParamSet). s.id) SETS i set 0 low in
    ap (λ (s : ParamSet). s.id) (sym row) ∙ sym ids ∙ get_or-range_with_len 0 10 i 0 low ∙ omega arith

pub unnamed_more : (name : List ℕ) (i : ℕ) (set : ParamSet) → Unnamed name i → i < 10 → slice_get SETS i ≡ Some set → pointwise nat_eq name (name_of set) ≡ false
    → Unnamed name (i + 1)
unnamed_more name i set before low at here =
    below_more (λ k. pointwise nat_eq name (get_or names k []) ≡ false) i before
    (ap (λ (k : ℕ). pointwise nat_eq name (get_or names k [])) (sym (id_at i set low at)) ∙ here)

pub named : (name : List ℕ) (set : ParamSet) → IsSet set → pointwise nat_eq name (name_of set) ≡ true → set_of name ≡ Some set
named name set is same = ap set_of ((bytes_eq-Decides name (name_of set)).0 same) ∙ set_of_name set is

pub set_in_is : (bytes : List ℕ) → set_in bytes ≡ set_of (take (7 + get_or bytes 6 0 - 7) (drop 7 bytes))
unfolding set_in
set_in_is bytes =
    let count : get_or bytes 6 0 ≡ 7 + get_or bytes 6 0 - 7 = omega arith in
    ap (λ (k : ℕ). set_of (take k (drop 7 bytes))) count

-- ---- the exits behind the kind

pub read-unknown : (bytes : List ℕ) → 6 + get_or bytes 6 0 < length bytes → set_in bytes ≡ None
    → Refused (UnknownSet 7) ≡ read_by (checked (name_checks bytes) (length bytes)) bytes
read-unknown bytes there none = read-fails (name_check bytes) (body_check bytes ∷ []) bytes there (rw none refl)

module _ (bytes : List ℕ) (set : ParamSet) where
  pub read-known : 6 + get_or bytes 6 0 < length bytes → set_in bytes ≡ Some set → (answer : HeaderRead)
      → answer ≡ read_by (checked (body_check bytes ∷ []) (length bytes)) bytes → answer ≡ read_by (checked (name_checks bytes) (length bytes)) bytes
  read-known there is answer rest = read-passes (name_check bytes) (body_check bytes ∷ []) bytes there (rw is refl) answer rest

  module _ (body needed : ℕ) (there : 14 + get_or bytes 6 0 < length bytes) (is : set_in bytes ≡ Some set)
      (e : body ≡ number_at bytes (7 + get_or bytes 6 0)) (n : needed ≡ needed_of (get_or bytes 5 0) set) where
    needed_is : needed ≡ needed_in (set_in bytes) (get_or bytes 5 0)
    needed_is = rw is n

    verdict : wrong_length (kind_in bytes) body needed ≡ (body_check bytes).fails
    verdict = rw (e, needed_is) refl

    pub read-wrong_length : wrong_length (kind_in bytes) body needed ≡ true
        → Refused (Length (7 + get_or bytes 6 0) body needed) ≡ read_by (checked (body_check bytes ∷ []) (length bytes)) bytes
    read-wrong_length wrong = rw (e, needed_is) (read-fails (body_check bytes) [] bytes there (sym verdict ∙ wrong))

    pub read-whole : wrong_length (kind_in bytes) body needed ≡ false
        → Whole (get_or bytes 5 0) set body (15 + get_or bytes 6 0) ≡ read_by (checked (body_check bytes ∷ []) (length bytes)) bytes
    read-whole right =
        let all : checked (body_check bytes ∷ []) (length bytes) ≡ passes =
        checked-passes (body_check bytes) [] (length bytes) there (sym verdict ∙ right) ∙ checked-none (length bytes) in
        rw (all, is, e) refl

-- ---- the exits at the version and the kind

pub read-version : (kinds : ℕ) (bytes : List ℕ) → 4 < length bytes → get_or bytes 4 0 ≡ 1 → (answer : HeaderRead)
    → answer ≡ read_by (checked (kind_check kinds bytes ∷ name_checks bytes) (length bytes)) bytes → answer ≡ read_by (checked (version_checks kinds bytes) (length bytes)) bytes
read-version kinds bytes there is answer rest =
    read-passes (version_check bytes) (kind_check kinds bytes ∷ name_checks bytes) bytes there (ap not (eq-eqb (get_or bytes 4 0) 1 is)) answer rest

pub read-kind : (kinds : ℕ) (bytes : List ℕ) → 5 < length bytes → accepts kinds (kind_in bytes) ≡ true → (answer : HeaderRead)
    → answer ≡ read_by (checked (name_checks bytes) (length bytes)) bytes → answer ≡ read_by (checked (kind_check kinds bytes ∷ name_checks bytes) (length bytes)) bytes
read-kind kinds bytes there is answer rest = read-passes (kind_check kinds bytes) (name_checks bytes) bytes there (ap not is) answer rest

-- ---- the exits at the magic number

abbrev magic : List ℕ
magic = 83 ∷ 80 ∷ 73 ∷ 82 ∷ []

module _ (kinds : ℕ) (bytes : List ℕ) (place : ℕ) (low : place < 4) where
  abbrev rest : List Check
  rest = drop (place + 1) (header_checks kinds bytes)

  abbrev here : Check
  here = magic_check bytes place (get_or magic place 0)

  -- what is read at this place
  read_here : read_by (checked (here ∷ rest) (length bytes)) bytes ≡ read_by (checked (drop place (header_checks kinds bytes)) (length bytes)) bytes
  read_here = ap (λ (checks : List Check). read_by (checked checks (length bytes)) bytes) (sym (magic_at kinds bytes place low))

  pub magic-ends : length bytes ≤ place → More ≡ read_by (checked (drop place (header_checks kinds bytes)) (length bytes)) bytes
  magic-ends h = read-ends here rest bytes h ∙ read_here

  pub magic-fails : place < length bytes → get_or bytes place 0 ≢ get_or magic place 0
      → Refused (Magic place) ≡ read_by (checked (drop place (header_checks kinds bytes)) (length bytes)) bytes
  magic-fails h other = read-fails here rest bytes h (ap not (ne_eqb (get_or bytes place 0) (get_or magic place 0) other)) ∙ read_here

  pub magic-passes : place < length bytes → get_or bytes place 0 ≡ get_or magic place 0
      → read_by (checked (drop place (header_checks kinds bytes)) (length bytes)) bytes ≡ read_by (checked (drop (place + 1) (header_checks kinds bytes)) (length bytes)) bytes
  magic-passes h same =
      sym read_here
      ∙ ap (λ (o : Outcome). read_by o bytes) (checked-passes here rest (length bytes) h (ap not (eq-eqb (get_or bytes place 0) (get_or magic place 0) same)))
