-- A frame at hand has fewer than 2^24 bytes: it is refused or whole before it has more.
use Rattle.std.proofs.Common.{◌≡◌, ℕ, ◌+◌, ◌/◌, ◌^◌, ◌<◌, ◌≤◌, ◌⊎◌, inl, inr, Bool, true, false, not, List, [], length, Option, Some, None, refl, ap, sym, subst, ◌∙◌, arith, lit<, eqb-true}
use Rattle.std.specs.Prelude.{nat_eq, nat_lt, if◌then◌else◌}
use Rattle.std.proofs.lemmas.Bool.{cases_lt, le-ltb}
use Rattle.std.proofs.lemmas.List.{append-nil}
use Rattle.std.proofs.Math.Nat.{div-eq_of_lt}
use Rattle.spiral_sets.specs.declared.param_set.ParamSet.{ParamSet}
use Rattle.spiral_sets.specs.Sets.{IsSet}
use Rattle.spiral_sets.specs.Counts.{setup_len, query_len, reply_len, state_len}
use Rattle.spiral_sets.proofs.SetBounds.{at_most}
use Rattle.frame_headers.specs.declared.kind.FrameKind.{FrameKind}
use Rattle.frame_headers.specs.declared.kind.FrameKind.TheVariants.{Setup, Query, Reply, Refuse, State, Database}
use Rattle.frame_headers.specs.Kinds.{kind_of_code, body_len_of}
use Rattle.frame_headers.specs.Checks.{Check, Outcome, passes, refuses, ends_before, checked, accepts, kind_in, name_len_in, set_in, body_len_in, header_len_in, header_checks, needed_in}
use Rattle.frame_headers.proofs.Outcomes.{AllPass, all_pass, and_then, checked-append, set_in-named}
use Rattle.spiral_frames.specs.FrameChecks.{more, front_by, front, checks_by, frame_checks}
use Rattle.frame_streams.specs.Decoding.{AreKinds}
use Rattle.frame_streams.specs.StreamLaws.{AreBytes}
use Rattle.frame_streams.proofs.Agreeing.{HeaderPassed, not_false, header_passed, frame_header, front_is}
use Rattle.frame_streams.proofs.LastBytes.{ends_short, frame_before, needed_known, needed_is}

-- ---- where more bytes are wanted

-- more bytes are wanted: the checks reach the end, or pass in fewer bytes than the frame has
wants_by : (outcome : Outcome) (frame_len size : ℕ) → front_by outcome frame_len size ≡ more
    → (outcome ≡ ends_before) ⊎ ((outcome ≡ passes) × (size < frame_len))
wants_by passes frame_len size h =
    elim (cases_lt size frame_len) [
      | inl short ↦ inr (refl, short)
      | inr enough ↦ let found = rw (le-ltb size frame_len enough) at h in absurd (cc)
    ]
wants_by (refuses error) frame_len size h = absurd (cc)
wants_by ends_before frame_len size h = inl refl

-- two lists of checks reach the end in the first, or in the second
ends_where : (first behind : Outcome) → and_then first behind ≡ ends_before → (first ≡ ends_before) ⊎ ((first ≡ passes) × (behind ≡ ends_before))
ends_where passes behind h = inr (refl, h)
ends_where (refuses error) behind h = absurd (cc)
ends_where ends_before behind h = inl refl

-- the header isn't whole, or it passed and the frame isn't whole
pub record IsShortOf (kinds : ℕ) (x : List ℕ) : Type 0 where
  pub header : HeaderPassed kinds x (length x)
  pub short : length x < header_len_in x + body_len_in x

header_short : (kinds : ℕ) (x : List ℕ) → checked (header_checks kinds x) (length x) ≡ ends_before → length x < header_len_in x
unfolding header_checks
header_short kinds x ends =
    ends_short (header_checks kinds x) (length x) (header_len_in x)
    (omega arith, (omega arith, (omega arith, (omega arith, (omega arith, (omega arith, (omega arith, (omega arith, tt)))))))) ends

-- the checks of the header alone
header_alone : (kinds : ℕ) (x : List ℕ) → checked (header_checks kinds x) (length x) ≡ passes → HeaderPassed kinds x (length x)
header_alone kinds x h =
    header_passed kinds x (length x) []
    (subst (λ (checks : List Check). AllPass checks (length x)) (sym (append-nil (header_checks kinds x))) (all_pass (header_checks kinds x) (length x) h))

pub wants_more : (kinds : ℕ) (x : List ℕ) → front kinds x ≡ more → (length x < header_len_in x) ⊎ IsShortOf kinds x
unfolding frame_checks
wants_more kinds x h =
    let behind : List Check = checks_by (kind_of_code (kind_in x)) (set_in x) x in
    elim (wants_by (checked (frame_checks kinds x) (length x)) (header_len_in x + body_len_in x) (length x) (sym (front_is kinds x) ∙ h)) [
      | inl ends ↦
          let both = sym (checked-append (header_checks kinds x) behind (length x)) ∙ ends in
          elim (ends_where (checked (header_checks kinds x) (length x)) (checked behind (length x)) both) [
            | inl first ↦ inl (header_short kinds x first)
            | inr later ↦
                let header = header_alone kinds x later.0 in
                inr (record {
                  header = header;
                  short = ends_short (frame_checks kinds x) (length x) (header_len_in x + body_len_in x) (frame_before x kinds header.right_length) ends;
                })
          ]
      | inr passed ↦ inr (record { header = frame_header kinds x (length x) passed.0; short = passed.1 })
    ]

-- ---- how many bytes a body has

nine : 9 ≤ 9000000
nine = omega arith

sixteen : 16 ≤ 9000000
sixteen = omega arith

-- what a body needs, of every kind in every set
lengths-most : (kind : FrameKind) (set : ParamSet) → IsSet set → body_len_of kind set ≤ 9000000
lengths-most Setup = at_most (λ set. setup_len set) 9000000 (refl, (refl, (refl, (refl, (refl, (refl, (refl, (refl, (refl, (refl, tt))))))))))
lengths-most Query = at_most (λ set. query_len set) 9000000 (refl, (refl, (refl, (refl, (refl, (refl, (refl, (refl, (refl, (refl, tt))))))))))
lengths-most Reply = at_most (λ set. reply_len set) 9000000 (refl, (refl, (refl, (refl, (refl, (refl, (refl, (refl, (refl, (refl, tt))))))))))
lengths-most Refuse = λ set is. nine
lengths-most State = at_most (λ set. state_len set) 9000000 (refl, (refl, (refl, (refl, (refl, (refl, (refl, (refl, (refl, (refl, tt))))))))))
lengths-most Database = λ set is. sixteen

known-most : (known : Option FrameKind) (named : Option ParamSet) → ((set : ParamSet) → named ≡ Some set → IsSet set) → needed_known known named ≤ 9000000
known-most (Some kind) (Some set) is = lengths-most kind set (is set refl)
known-most None (Some set) is = omega arith
known-most known None is = omega arith

-- a length that isn't wrong is the one that is needed, where the kind isn't a Database's
exact : (database : Bool) (body needed : ℕ) → database ≡ false → (if database then nat_lt body needed else not (nat_eq body needed)) ≡ false → body ≡ needed
exact true body needed other h = absurd (cc)
exact false body needed other h = eqb-true body needed (not_false (nat_eq body needed) h)

-- no decoder accepts a Database
accepts_none : (kinds : ℕ) → kinds < 64 → accepts kinds 6 ≡ false
accepts_none kinds low = let past : kinds / 2 ^ 6 ≡ 0 = div-eq_of_lt low in rw past refl

no_database : (kinds code : ℕ) (b : Bool) → kinds < 64 → accepts kinds code ≡ true → nat_eq code 6 ≡ b → b ≡ false
no_database kinds code true low accepted is =
    let same : code ≡ 6 = eqb-true code 6 is in
    let none : accepts kinds code ≡ false = ap (accepts kinds) same ∙ accepts_none kinds low in
    let both : true ≡ false = sym accepted ∙ none in
    absurd (cc)
no_database kinds code false low accepted is = refl

body-most : (kinds : ℕ) (x : List ℕ) → AreKinds kinds → HeaderPassed kinds x (length x) → body_len_in x ≤ 9000000
body-most kinds x are header =
    let other : nat_eq (kind_in x) 6 ≡ false = no_database kinds (kind_in x) (nat_eq (kind_in x) 6) are.0 header.accepted refl in
    let same : body_len_in x ≡ needed_in (set_in x) (kind_in x) =
    exact (nat_eq (kind_in x) 6) (body_len_in x) (needed_in (set_in x) (kind_in x)) other header.right_length in
    let known : needed_known (kind_of_code (kind_in x)) (set_in x) ≤ 9000000 =
    known-most (kind_of_code (kind_in x)) (set_in x) (λ set named. (set_in-named x set named).known) in
    subst (λ (k : ℕ). k ≤ 9000000) (sym (same ∙ needed_is (kind_in x) (set_in x))) known

-- ---- a frame at hand is short

name-most : (x : List ℕ) → AreBytes x → 6 < length x → name_len_in x < 256
name-most x below long = below 6 0 long

within_all : (size name body : ℕ) → name < 256 → body ≤ 9000000 → size < 15 + name + body → size < 2 ^ 24
within_all size name body low most short = let large : 9000271 < 2 ^ 24 = lit< tt in omega arith

-- A frame at hand has fewer than 2^24 bytes.
pub short_frames : (kinds : ℕ) (x : List ℕ) → AreBytes x → AreKinds kinds → front kinds x ≡ more → length x < 2 ^ 24
short_frames kinds x below are wants =
    elim (cases_lt 6 (length x)) [
      | inl long ↦
          elim (wants_more kinds x wants) [
            | inl head ↦ within_all (length x) (name_len_in x) 0 (name-most x below long) (omega arith) (omega arith)
            | inr frame ↦ within_all (length x) (name_len_in x) (body_len_in x) (name-most x below long) (body-most kinds x are frame.header) frame.short
          ]
      | inr few ↦ within_all (length x) 0 0 (omega arith) (omega arith) (omega arith)
    ]
