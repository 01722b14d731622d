-- What it says that checks pass, fail, or reach the input's end.
use Rattle.std.proofs.Common.{◌≡◌, ℕ, ◌/◌, ◌^◌, ◌<◌, ◌≤◌, ◌⊎◌, inl, inr, Bool, true, false, List, [], ◌∷◌, ◌++◌, get_or, Option, Some, None, refl, ap, sym, ◌∙◌, arith, lt-ltb, ltb-true, zero, suc}
use Rattle.std.specs.Prelude.{slice_get, nat_eq, nat_lt, if◌then◌else◌}
use Rattle.std.proofs.lemmas.Bool.{cases_lt}
use Rattle.std.proofs.lemmas.Option.{get_or_from_slice_get, slice_get_within}
use Rattle.std.proofs.lemmas.Slice.Eq.{bytes_eq-Decides}
use Rattle.std.proofs.Math.Nat.{pow-le-pow_right, div-eq_of_lt}
use lib.Pointwise.{pointwise}
use Rattle.spiral_sets.specs.declared.param_set.ParamSet.{ParamSet}
use Rattle.spiral_sets.specs.declared.sets.TheConstants.{SETS}
use Rattle.frame_headers.specs.declared.frame_error.FrameError.{FrameError}
use Rattle.frame_headers.specs.declared.header.HeaderRead.TheVariants.{More, Refused, Whole}
use Rattle.spiral_sets.specs.Sets.{IsSet, name_of, names, named_among, set_of}
use Rattle.frame_headers.specs.Checks.{Check, Outcome, checked, passes, refuses, ends_before, read_by, whole_header, accepts, is_none, set_in, name_in, kind_in, body_len_in, header_len_in}
use Rattle.frame_headers.proofs.HeaderReading.{checked-none, checked-passes, id_at}

-- ---- one list of checks after another

-- the outcome of more checks behind those of this outcome
abbrev pub and_then : Outcome → Outcome → Outcome
and_then passes more = more
and_then (refuses error) more = refuses error
and_then ends_before more = ends_before

stepped : (decided fails : Bool) (error : FrameError) (all first more : Outcome) → all ≡ and_then first more
    → (if decided then (if fails then refuses error else all) else ends_before) ≡ and_then (if decided then (if fails then refuses error else first) else ends_before) more
stepped true true error all first more h = refl
stepped true false error all first more h = h
stepped false fails error all first more h = refl

pub checked-append : (xs ys : List Check) (size : ℕ) → checked (xs ++ ys) size ≡ and_then (checked xs size) (checked ys size)
unfolding checked
checked-append [] ys size = refl
checked-append (x ∷ xs) ys size =
    stepped (nat_lt x.decided_at size) x.fails x.refusal (checked (xs ++ ys) size) (checked xs size) (checked ys size) (checked-append xs ys size)

-- every check is decided within the input, and none fails
abbrev pub AllPass : List Check → ℕ → Type 0
AllPass [] size = Unit {0}
AllPass (check ∷ checks) size = (check.decided_at < size) × ((check.fails ≡ false) × AllPass checks size)

step_passes : (decided fails : Bool) (error : FrameError) (rest : Outcome) → (if decided then (if fails then refuses error else rest) else ends_before) ≡ passes
    → (decided ≡ true) × ((fails ≡ false) × (rest ≡ passes))
step_passes true true error rest h = absurd (cc)
step_passes true false error rest h = (refl, (refl, h))
step_passes false fails error rest h = absurd (cc)

pub all_pass : (checks : List Check) (size : ℕ) → checked checks size ≡ passes → AllPass checks size
unfolding checked
all_pass [] size h = tt
all_pass (check ∷ checks) size h =
    let step = step_passes (nat_lt check.decided_at size) check.fails check.refusal (checked checks size) h in
    (ltb-true check.decided_at size step.0, (step.1.0, all_pass checks size step.1.1))

pub passed_all : (checks : List Check) (size : ℕ) → AllPass checks size → checked checks size ≡ passes
passed_all [] size h = checked-none size
passed_all (check ∷ checks) size h = checked-passes check checks size h.0 h.1.0 ∙ passed_all checks size h.1.1

-- every check is decided before a size
abbrev pub AllBefore : List Check → ℕ → Type 0
AllBefore [] size = Unit {0}
AllBefore (check ∷ checks) size = (check.decided_at < size) × AllBefore checks size

-- more input changes nothing then
pub checked-size : (checks : List Check) (a b : ℕ) → a ≤ b → AllBefore checks a → checked checks a ≡ checked checks b
unfolding checked
checked-size [] a b le h = refl
checked-size (check ∷ checks) a b le h =
    let later : check.decided_at < b = omega (arith, h.0) in
    rw (lt-ltb check.decided_at a h.0, lt-ltb check.decided_at b later, checked-size checks a b le h.1) refl

-- ---- what a header that was read says of the checks

never_more : (named : Option ParamSet) (bytes : List ℕ) → whole_header named bytes ≡ More → ⊥
never_more (Some set) bytes h = cc
never_more None bytes h = cc

never_refused : (named : Option ParamSet) (bytes : List ℕ) (error : FrameError) → is_none named ≡ false → whole_header named bytes ≡ Refused error → ⊥
never_refused (Some set) bytes error some h = cc
never_refused None bytes error some h = cc

pub more_ends : (outcome : Outcome) (bytes : List ℕ) → read_by outcome bytes ≡ More → outcome ≡ ends_before
more_ends passes bytes h = absurd (never_more (set_in bytes) bytes h)
more_ends (refuses error) bytes h = absurd (cc)
more_ends ends_before bytes h = refl

pub refused_refuses : (outcome : Outcome) (bytes : List ℕ) (error : FrameError) → (outcome ≡ passes → is_none (set_in bytes) ≡ false)
    → read_by outcome bytes ≡ Refused error → outcome ≡ refuses error
refused_refuses passes bytes error some h = absurd (never_refused (set_in bytes) bytes error (some refl) h)
refused_refuses (refuses other) bytes error some h = cc
refused_refuses ends_before bytes error some h = absurd (cc)

-- a whole header: all checks pass
pub record IsWhole (outcome : Outcome) (bytes : List ℕ) (kind : ℕ) (set : ParamSet) (body used : ℕ) : Type 0 where
  pub passed : outcome ≡ passes
  pub kind_is : kind ≡ kind_in bytes
  pub named : set_in bytes ≡ Some set
  pub body_is : body ≡ body_len_in bytes
  pub used_is : used ≡ header_len_in bytes

whole_named : (named : Option ParamSet) (bytes : List ℕ) (kind : ℕ) (set : ParamSet) (body used : ℕ) → set_in bytes ≡ named
    → whole_header named bytes ≡ Whole kind set body used → IsWhole passes bytes kind set body used
whole_named (Some other) bytes kind set body used is h =
    let same : other ≡ set = cc in
    record { passed = refl; kind_is = cc; named = is ∙ ap (λ (s : ParamSet). Some s) same; body_is = cc; used_is = cc }
whole_named None bytes kind set body used is h = absurd (cc)

pub whole_passes : (outcome : Outcome) (bytes : List ℕ) (kind : ℕ) (set : ParamSet) (body used : ℕ) → read_by outcome bytes ≡ Whole kind set body used
    → IsWhole outcome bytes kind set body used
whole_passes passes bytes kind set body used h = whole_named (set_in bytes) bytes kind set body used refl h
whole_passes (refuses error) bytes kind set body used h = absurd (cc)
whole_passes ends_before bytes kind set body used h = absurd (cc)

-- ---- the only kind of databases

low_kind : (kind : ℕ) → kind < 7 → accepts 64 kind ≡ true → kind ≡ 6
low_kind zero low h = absurd (cc)
low_kind (suc zero) low h = absurd (cc)
low_kind (suc (suc zero)) low h = absurd (cc)
low_kind (suc (suc (suc zero))) low h = absurd (cc)
low_kind (suc (suc (suc (suc zero)))) low h = absurd (cc)
low_kind (suc (suc (suc (suc (suc zero))))) low h = absurd (cc)
low_kind (suc (suc (suc (suc (suc (suc kind)))))) low h = omega arith

pub kind_is_6 : (kind : ℕ) → accepts 64 kind ≡ true → kind ≡ 6
kind_is_6 kind h =
    elim (cases_lt kind 7) [
      | inl low ↦ low_kind kind low h
      | inr high ↦
          let large : 2 ^ 7 ≤ 2 ^ kind = pow-le-pow_right (omega arith) high in
          let past : 64 / 2 ^ kind ≡ 0 = div-eq_of_lt (omega arith) in
          let no : accepts 64 kind ≡ false = rw past refl in
          absurd (cc)
    ]

-- ---- the set that a name names

pick : (here : Bool) (set other : ParamSet) (rest : Option ParamSet) → (if here then Some other else rest) ≡ Some set
    → ((here ≡ true) × (other ≡ set)) ⊎ (rest ≡ Some set)
pick true set other rest h = let same : other ≡ set = cc in inl (refl, same)
pick false set other rest h = inr h

-- the name and the set stand at one place
record NamedAt (name : List ℕ) (others : List (List ℕ)) (sets : List ParamSet) (set : ParamSet) : Type 0 where
  place : ℕ
  same : name ≡ get_or others place []
  row : slice_get sets place ≡ Some set

named_at : (name : List ℕ) (others : List (List ℕ)) (sets : List ParamSet) (set : ParamSet) → named_among name others sets ≡ Some set → NamedAt name others sets set
named_at name [] sets set h = absurd (cc)
named_at name (other ∷ others) [] set h = absurd (cc)
named_at name (other ∷ others) (s ∷ sets) set h =
    elim (pick (pointwise nat_eq name other) set s (named_among name others sets) h) [
      | inl here ↦ record { place = 0; same = (bytes_eq-Decides name other).0 here.0; row = ap (λ (t : ParamSet). Some t) here.1 }
      | inr rest ↦
          let more = named_at name others sets set rest in
          record { place = suc more.place; same = more.same; row = more.row }
    ]

pub record IsNamed (name : List ℕ) (set : ParamSet) : Type 0 where
  pub known : IsSet set
  pub name_is : name ≡ name_of set

pub is_named : (name : List ℕ) (set : ParamSet) → set_of name ≡ Some set → IsNamed name set
is_named name set h =
    let at = named_at name names SETS set h in
    let low : at.place < 10 = slice_get_within SETS at.place set at.row in
    let id : set.id ≡ at.place = id_at at.place set low at.row in
    record {
      known = (at.place, low, get_or_from_slice_get SETS at.place set set at.row);
      name_is = at.same ∙ ap (λ (k : ℕ). get_or names k []) (sym id);
    }

-- the set in a header is known, and has the name there
pub set_in-named : (bytes : List ℕ) (set : ParamSet) → set_in bytes ≡ Some set → IsNamed (name_in bytes) set
unfolding set_in
set_in-named bytes set h = is_named (name_in bytes) set h
