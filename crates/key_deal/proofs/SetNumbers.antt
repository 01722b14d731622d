-- Bounds on the keys of sets that have them: widths, and rounds.
use Rattle.std.proofs.Common.{◌≡◌, ℕ, ◌+◌, ◌-◌, ◌*◌, ◌/◌, ◌%◌, ◌^◌, ◌<◌, ◌≤◌, Bool, true, false, if◌then◌else◌, refl, ◌∙◌, ap, arith, inl, inr}
use Rattle.std.proofs.lemmas.Bool.{cases_lt}
use Rattle.std.proofs.lemmas.Nat.{pow-add, pow_pos}
use Rattle.std.proofs.Math.Nat.{mul-div_cancel, div-le_self}
use Rattle.std.proofs.Math.Pow.{pow_mono}
use Rattle.spiral_sets.specs.declared.param_set.ParamSet.{ParamSet}
use Rattle.spiral_sets.specs.Sets.{IsSet, has_keys, rho}
use Rattle.spiral_sets.proofs.SetBounds.{at_least, at_most}
use Rattle.ring_poly.specs.Polynomials.{IsDegree}

-- ---- widths

-- of lift keys and the conversion key
pub w_conv-most : (set : ParamSet) → IsSet set → set.w_conv ≤ 56
w_conv-most = at_most (λ set. set.w_conv) 56 (refl, (refl, (refl, (refl, (refl, (refl, (refl, (refl, (refl, (refl, tt))))))))))

conv_keyed : (set : ParamSet) → IsSet set → 1 ≤ (if has_keys set then set.w_conv else 1)
conv_keyed = at_least (λ set. if has_keys set then set.w_conv else 1) 1 (refl, (refl, (refl, (refl, (refl, (refl, (refl, (refl, (refl, (refl, tt))))))))))

pub w_conv-some : (set : ParamSet) → IsSet set → has_keys set ≡ true → 1 ≤ set.w_conv
w_conv-some set is keys =
    let here : (if has_keys set then set.w_conv else 1) ≡ set.w_conv = ap (λ (b : Bool). if b then set.w_conv else 1) keys in
    omega (arith, here, conv_keyed set is)

-- a set that expands has keys
pub expands-keys : (set : ParamSet) → set.direct ≡ false → has_keys set ≡ true
expands-keys set expands = rw expands refl

-- of automorphism keys
pub w_right-most : (set : ParamSet) → IsSet set → set.w_right ≤ 56
w_right-most = at_most (λ set. set.w_right) 56 (refl, (refl, (refl, (refl, (refl, (refl, (refl, (refl, (refl, (refl, tt))))))))))

right_expanding : (set : ParamSet) → IsSet set → 1 ≤ (if set.direct then 1 else set.w_right)
right_expanding = at_least (λ set. if set.direct then 1 else set.w_right) 1 (refl, (refl, (refl, (refl, (refl, (refl, (refl, (refl, (refl, (refl, tt))))))))))

pub w_right-some : (set : ParamSet) → IsSet set → set.direct ≡ false → 1 ≤ set.w_right
w_right-some set is expands =
    let here : (if set.direct then 1 else set.w_right) ≡ set.w_right = ap (λ (b : Bool). if b then 1 else set.w_right) expands in
    omega (arith, here, right_expanding set is)

pub w_left-most : (set : ParamSet) → IsSet set → set.w_left ≤ 56
w_left-most = at_most (λ set. set.w_left) 56 (refl, (refl, (refl, (refl, (refl, (refl, (refl, (refl, (refl, (refl, tt))))))))))

left_expanding : (set : ParamSet) → IsSet set → 1 ≤ (if set.direct then 1 else set.w_left)
left_expanding = at_least (λ set. if set.direct then 1 else set.w_left) 1 (refl, (refl, (refl, (refl, (refl, (refl, (refl, (refl, (refl, (refl, tt))))))))))

pub w_left-some : (set : ParamSet) → IsSet set → set.direct ≡ false → 1 ≤ set.w_left
w_left-some set is expands =
    let here : (if set.direct then 1 else set.w_left) ≡ set.w_left = ap (λ (b : Bool). if b then 1 else set.w_left) expands in
    omega (arith, here, left_expanding set is)

-- ---- rounds

-- the rounds of each side are within the degree
left_within : (set : ParamSet) → IsSet set → 2 ^ (1 + set.nu1) + (2048 - set.degree) ≤ 2048
left_within = at_most (λ set. 2 ^ (1 + set.nu1) + (2048 - set.degree)) 2048 (refl, (refl, (refl, (refl, (refl, (refl, (refl, (refl, (refl, (refl, tt))))))))))

pub left-within : (set : ParamSet) → IsSet set → 2 ^ (1 + set.nu1) ≤ set.degree
left-within set is = omega (arith, left_within set is)

right_within : (set : ParamSet) → IsSet set → 2 ^ (1 + rho set) + (2048 - set.degree) ≤ 2048
right_within = at_most (λ set. 2 ^ (1 + rho set) + (2048 - set.degree)) 2048 (refl, (refl, (refl, (refl, (refl, (refl, (refl, (refl, (refl, (refl, tt))))))))))

pub right-within : (set : ParamSet) → IsSet set → 2 ^ (1 + rho set) ≤ set.degree
right-within set is = omega (arith, right_within set is)

-- A round's number is small,
pub round_small : (N j : ℕ) → N ≤ 2048 → 2 ^ (j + 1) ≤ N → j < 11
round_small N j most within =
    elim (cases_lt j 11) [
      | inl low ↦ low
      | inr high ↦
          let wide : 2 ^ 12 ≤ 2 ^ (j + 1) = pow_mono (let e : 12 ≤ j + 1 = omega arith in e) in
          absurd (omega arith)
    ]

-- and its automorphism is odd: 2^(d - j) + 1, for the degree 2^d.
odd_after : (a r : ℕ) → 0 < a → (2 ^ (r + 1) * a / a + 1) % 2 ≡ 1
odd_after a r some =
    let whole : 2 ^ (r + 1) * a / a ≡ 2 ^ (r + 1) = mul-div_cancel (2 ^ (r + 1)) some in
    let double : 2 ^ (r + 1) ≡ 2 ^ r * 2 = pow-add 2 r 1 in
    rw whole (omega (arith, double))

odd_power : (d j : ℕ) → j < d → (2 ^ d / 2 ^ j + 1) % 2 ≡ 1
odd_power d j h =
    let r = d - j - 1 in
    let split : d ≡ r + 1 + j = omega arith in
    let parts : 2 ^ d ≡ 2 ^ (r + 1) * 2 ^ j = ap (λ (n : ℕ). 2 ^ n) split ∙ pow-add 2 (r + 1) j in
    ap (λ (n : ℕ). (n / 2 ^ j + 1) % 2) parts ∙ odd_after (2 ^ j) r (pow_pos j)

below_degree : (d j : ℕ) → 2 ^ (j + 1) ≤ 2 ^ d → j < d
below_degree d j within =
    elim (cases_lt j d) [
      | inl low ↦ low
      | inr high ↦
          let wide : 2 ^ d ≤ 2 ^ j = pow_mono high in
          let double : 2 ^ (j + 1) ≡ 2 ^ j * 2 = pow-add 2 j 1 in
          absurd (omega (arith, wide, double, within, pow_pos j))
    ]

pub automorphism-odd : (N j : ℕ) → IsDegree N → 2 ^ (j + 1) ≤ N → (N / 2 ^ j + 1) % 2 ≡ 1
automorphism-odd N j (inl small) within =
    let here : N ≡ 2 ^ 8 = small in
    ap (λ (n : ℕ). (n / 2 ^ j + 1) % 2) here ∙ odd_power 8 j (below_degree 8 j (omega (arith, here, within)))
automorphism-odd N j (inr large) within =
    let here : N ≡ 2 ^ 11 = large in
    ap (λ (n : ℕ). (n / 2 ^ j + 1) % 2) here ∙ odd_power 11 j (below_degree 11 j (omega (arith, here, within)))

pub degree-most : (N : ℕ) → IsDegree N → N ≤ 2048
degree-most N (inl small) = omega (arith, small)
degree-most N (inr large) = omega (arith, large)

pub degree-some : (N : ℕ) → IsDegree N → 2 ≤ N
degree-some N (inl small) = omega (arith, small)
degree-some N (inr large) = omega (arith, large)

-- it is below 2N
pub automorphism-below : (N j : ℕ) → IsDegree N → N / 2 ^ j + 1 < 2 * N
automorphism-below N j degree = omega (arith, div-le_self N (2 ^ j), degree-some N degree)
