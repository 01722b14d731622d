-- What stands at the front of bytes stays there, whatever comes behind.
use Rattle.std.proofs.Common.{◌≡◌, ℕ, ◌+◌, ◌<◌, ◌≤◌, ◌⊎◌, inl, inr, Bool, true, false, not, List, ◌++◌, length, refl, ap, sym, ◌∙◌, arith, length-append}
use Rattle.std.proofs.lemmas.Bool.{cases_lt, lt-ltb, le-ltb}
use Rattle.frame_headers.specs.declared.frame_error.FrameError.{FrameError}
use Rattle.frame_headers.specs.Kinds.{kind_of_code}
use Rattle.frame_headers.specs.Checks.{Check, Outcome, passes, refuses, ends_before, checked, accepts, kind_in, name_len_in, set_in, body_len_in, header_len_in, header_checks, wrong_length, needed_in, is_none}
use Rattle.frame_headers.proofs.Outcomes.{AllPass, all_pass}
use Rattle.spiral_frames.specs.FrameChecks.{more, wrong, whole, front_by, front, frame_checks, checks_by}
use Rattle.frame_streams.proofs.Staying.{SameHeader, same_header, frame_stays}

-- ---- a header that passed its checks

-- The header is within so many bytes, and names an accepted kind, a set, and a body length that suits these.
pub record HeaderPassed (kinds : ℕ) (bytes : List ℕ) (size : ℕ) : Type 0 where
  pub within : 14 + name_len_in bytes < size
  pub accepted : accepts kinds (kind_in bytes) ≡ true
  pub named : is_none (set_in bytes) ≡ false
  pub right_length : wrong_length (kind_in bytes) (body_len_in bytes) (needed_in (set_in bytes) (kind_in bytes)) ≡ false

pub not_false : (b : Bool) → not b ≡ false → b ≡ true
not_false true h = refl
not_false false h = absurd (cc)

module _ (kinds : ℕ) (bytes : List ℕ) (size : ℕ) where
  pub header_passed : (rest : List Check) → AllPass (header_checks kinds bytes ++ rest) size → HeaderPassed kinds bytes size
  unfolding header_checks
  header_passed rest h =
      let h1 = h.1.1 in
      let h2 = h1.1.1 in
      let h3 = h2.1.1 in
      let h4 = h3.1.1 in
      let h5 = h4.1.1 in
      let h6 = h5.1.1 in
      let h7 = h6.1.1 in
      record { within = h7.0; accepted = not_false (accepts kinds (kind_in bytes)) h5.1.0; named = h6.1.0; right_length = h7.1.0 }

  -- a frame all of whose checks pass has such a header
  pub frame_header : checked (frame_checks kinds bytes) size ≡ passes → HeaderPassed kinds bytes size
  unfolding frame_checks
  frame_header h =
      let rest : List Check = checks_by (kind_of_code (kind_in bytes)) (set_in bytes) bytes in
      header_passed rest (all_pass (header_checks kinds bytes ++ rest) size h)

-- ---- what stands at the front

-- its cases exclude each other
pub more_or_whole : (len : ℕ) → more ≡ whole len → ⊥
more_or_whole len h = cc

pub more_or_wrong : (error : FrameError) → more ≡ wrong error → ⊥
more_or_wrong error h = cc

pub wrong_or_whole : (error : FrameError) (len : ℕ) → wrong error ≡ whole len → ⊥
wrong_or_whole error len h = cc

pub same_whole : (len other : ℕ) → whole len ≡ whole other → len ≡ other
same_whole len other h = cc

pub front_is : (kinds : ℕ) (bytes : List ℕ)
    → front kinds bytes ≡ front_by (checked (frame_checks kinds bytes) (length bytes)) (header_len_in bytes + body_len_in bytes) (length bytes)
unfolding front
front_is kinds bytes = refl

-- all checks pass, and the frame is within
pub record IsWholeFront (outcome : Outcome) (frame_len size len : ℕ) : Type 0 where
  pub passed : outcome ≡ passes
  pub len_is : len ≡ frame_len
  pub within : len ≤ size

pub whole_front : (outcome : Outcome) (frame_len size len : ℕ) → front_by outcome frame_len size ≡ whole len → IsWholeFront outcome frame_len size len
whole_front passes frame_len size len h =
    elim (cases_lt size frame_len) [
      | inl short ↦ let found = rw (lt-ltb size frame_len short) at h in absurd (cc)
      | inr enough ↦
          let found = rw (le-ltb size frame_len enough) at h in
          let same : frame_len ≡ len = cc in
          record { passed = refl; len_is = sym same; within = omega arith }
    ]
whole_front (refuses error) frame_len size len h = absurd (cc)
whole_front ends_before frame_len size len h = absurd (cc)

-- A whole frame is within the bytes.
pub whole_within : (kinds : ℕ) (y : List ℕ) (len : ℕ) → front kinds y ≡ whole len → len ≤ length y
whole_within kinds y len h =
    (whole_front (checked (frame_checks kinds y) (length y)) (header_len_in y + body_len_in y) (length y) len (sym (front_is kinds y) ∙ h)).within

-- what stays, where the checks find the same
stays_by : (here there : Outcome) (len len' few many : ℕ) → few ≤ many → (here ≡ ends_before) ⊎ (here ≡ there) → (here ≡ passes → len ≡ len')
    → (front_by here len few ≡ more) ⊎ (front_by here len few ≡ front_by there len' many)
stays_by passes there len len' few many le (inl ends) same = absurd (cc)
stays_by passes there len len' few many le (inr found) same =
    let is : len ≡ len' = same refl in
    elim (cases_lt few len) [
      | inl short ↦ inl (rw (lt-ltb few len short) refl)
      | inr enough ↦
          let later : len ≤ many = omega arith in
          let here : front_by passes len few ≡ whole len = rw (le-ltb few len enough) refl in
          let all : front_by passes len many ≡ whole len = rw (le-ltb many len later) refl in
          inr (here ∙ sym all ∙ ap (λ (k : ℕ). front_by passes k many) is ∙ ap (λ (o : Outcome). front_by o len' many) found)
    ]
stays_by (refuses error) there len len' few many le (inl ends) same = absurd (cc)
stays_by (refuses error) there len len' few many le (inr found) same = inr (ap (λ (o : Outcome). front_by o len' many) found)
stays_by ends_before there len len' few many le h same = inl refl

-- What stands at the front of bytes is what stands at the front of more bytes, unless more bytes are wanted.
pub front_stays : (kinds : ℕ) (y z : List ℕ) → (front kinds y ≡ more) ⊎ (front kinds y ≡ front kinds (y ++ z))
unfolding front
front_stays kinds y z =
    let len_same : checked (frame_checks kinds y) (length y) ≡ passes → header_len_in y + body_len_in y ≡ header_len_in (y ++ z) + body_len_in (y ++ z) =
    λ passed.
    let same : SameHeader y z = same_header y z (frame_header kinds y (length y) passed).within in
    omega (arith, same.name_len, same.body) in
    stays_by (checked (frame_checks kinds y) (length y)) (checked (frame_checks kinds (y ++ z)) (length (y ++ z))) (header_len_in y + body_len_in y)
    (header_len_in (y ++ z) + body_len_in (y ++ z)) (length y) (length (y ++ z)) (omega (arith, length-append y z)) (frame_stays y z kinds).is len_same
