-- What stands at the front as a whole frame: the header of an accepted kind and of a set, and a body that passes its checks.
use Rattle.std.proofs.Common.{◌≡◌, ◌≢◌, ℕ, ◌+◌, ◌<◌, ◌≤◌, true, false, List, [], ◌∷◌, ◌++◌, length, drop, All, Option, Some, None, refl, ◌∙◌, ap, subst, arith, lt-ltb, le-ltb, inl, inr}
use Rattle.std.specs.Prelude.{nat_lt}
use Rattle.std.proofs.lemmas.Bool.{cases_lt}
use Rattle.std.proofs.lemmas.List.{length-drop}
use Rattle.spiral_sets.specs.declared.param_set.ParamSet.{ParamSet}
use Rattle.spiral_sets.specs.Sets.{IsSet}
use Rattle.frame_headers.specs.declared.kind.FrameKind.{FrameKind}
use Rattle.frame_headers.specs.declared.kind.FrameKind.TheVariants.{Database}
use Rattle.frame_headers.specs.Kinds.{code_of_kind, kind_of_code, body_len_of}
use Rattle.frame_headers.specs.Headers.{header}
use Rattle.frame_headers.specs.Checks.{Check, Outcome, checked, passes, refuses, ends_before, accepts, is_none, kind_in, set_in, body_len_in, header_len_in, header_checks}
use Rattle.frame_headers.proofs.Outcomes.{AllPass, all_pass}
use Rattle.spiral_frames.specs.FrameChecks.{whole, front, front_by, frame_checks, checks_by, body_checks}
use Rattle.frame_streams.specs.Decoding.{AreKinds}
use Rattle.frame_streams.proofs.HeaderStages.{HasHeader, IsOtherKind, passed_named, header_in_front}

-- ---- a whole frame's checks

-- checks of two lists that all pass
all_pass-append : (xs ys : List Check) (size : ℕ) → AllPass (xs ++ ys) size → AllPass xs size × AllPass ys size
all_pass-append [] ys size h = (tt, h)
all_pass-append (x ∷ xs) ys size h =
    let rest = all_pass-append xs ys size h.1.1 in ((h.0, (h.1.0, rest.0)), rest.1)

-- a frame is whole where its checks pass and its bytes are there
front_whole : (outcome : Outcome) (frame_len size len : ℕ) → front_by outcome frame_len size ≡ whole len
    → (outcome ≡ passes) × ((frame_len ≤ size) × (len ≡ frame_len))
front_whole passes frame_len size len h =
    elim (cases_lt size frame_len) [
      | inl short ↦
          let few : nat_lt size frame_len ≡ true = lt-ltb size frame_len short in
          let no = rw few at h in
          absurd (cc)
      | inr enough ↦
          let many : nat_lt size frame_len ≡ false = le-ltb size frame_len enough in
          let same = rw many at h in
          let is : len ≡ frame_len = cc in
          (refl, (enough, is))
    ]
front_whole (refuses error) frame_len size len h = absurd (cc)
front_whole ends_before frame_len size len h = absurd (cc)

some_set : (named : Option ParamSet) → is_none named ≡ false → (set : ParamSet) × (named ≡ Some set)
some_set (Some set) h = (set, refl)
some_set None h = absurd (cc)

-- ---- a whole frame

-- The bytes are the header of a kind that is accepted, and of a set, and a body of its length that passes the checks.
pub record IsFrame (kinds : ℕ) (x : List ℕ) : Type 0 where
  pub kind : FrameKind
  pub set : ParamSet
  pub kind_named : kind_of_code (kind_in x) ≡ Some kind
  pub set_named : set_in x ≡ Some set
  pub known : IsSet set
  pub other : kind ≢ Database
  pub accepted : accepts kinds (code_of_kind kind) ≡ true
  pub begins : x ≡ header (code_of_kind kind) set (body_len_of kind set) ++ drop (header_len_in x) x
  pub size : length (drop (header_len_in x) x) ≡ body_len_of kind set
  pub passed : AllPass (body_checks kind set x) (length x)

-- What stands at the front as a whole frame is one.
pub frame_read : (kinds : ℕ) (x : List ℕ) → All (λ b. b < 256) x → AreKinds kinds → front kinds x ≡ whole (length x) → IsFrame kinds x
unfolding front frame_checks
frame_read kinds x below are h =
    let found = front_whole (checked (frame_checks kinds x) (length x)) (header_len_in x + body_len_in x) (length x) (length x) h in
    let all : AllPass (frame_checks kinds x) (length x) = all_pass (frame_checks kinds x) (length x) found.0 in
    let two = all_pass-append (header_checks kinds x) (checks_by (kind_of_code (kind_in x)) (set_in x) x) (length x) all in
    let named = some_set (set_in x) (passed_named kinds x two.0) in
    let has : HasHeader kinds x named.0 = header_in_front kinds x named.0 below are named.1 two.0 in
    let code : IsOtherKind (kind_in x) = has.is_kind in
    let checks : checks_by (kind_of_code (kind_in x)) (set_in x) x ≡ body_checks code.kind named.0 x =
    ap (λ (k : Option FrameKind). checks_by k (set_in x) x) code.kind_is ∙ ap (λ (s : Option ParamSet). checks_by (Some code.kind) s x) named.1 in
    record {
      kind = code.kind;
      set = named.0;
      kind_named = code.kind_is;
      set_named = named.1;
      known = has.known;
      other = code.other;
      accepted = subst (λ (k : ℕ). accepts kinds k ≡ true) code.code_is has.accepted;
      begins = has.front;
      size = length-drop (header_len_in x) x ∙ omega (arith, found.1.1, has.len_is);
      passed = subst (λ (cs : List Check). AllPass cs (length x)) checks two.1;
    }
