-- How large the sides of Fits are, and rows whose left side is too large in any case.
use Rattle.std.proofs.Common.{ℕ, ◌+◌, ◌*◌, ◌<◌, ◌≤◌, ◌↔◌, IsTrue, false, refl, arith, mul-le-mul, mul-le-mul_left, mul-le-mul_right}
use Rattle.std.proofs.lemmas.Bool.{false≢true}
use Rattle.spiral_sets.specs.Sets.{IsSet, q, p, q1, q2}
use Rattle.spiral_sets.proofs.SetBounds.{at_least}
use Rattle.spiral_model.specs.Noise.{NoiseRow, noise_left, noise_right}
use Rattle.spiral_sets.specs.declared.param_set.ParamSet.{ParamSet}

-- a product of three, each with its bound
pub product_of_three : (a b c l m n : ℕ) → a ≤ l → b ≤ m → c ≤ n → a * b * c ≤ l * m * n
product_of_three a b c l m n first second third =
    let two : a * b ≤ l * m = mul-le-mul first second in mul-le-mul two third

-- there is a value
pub p-some : (set : ParamSet) → IsSet set → 1 ≤ p set
p-some = at_least (λ set. p set) 1 (refl, (refl, (refl, (refl, (refl, (refl, (refl, (refl, (refl, (refl, tt))))))))))

-- a secret weighs less than q2, since it has at most 2048 numbers
pub q2-large : (set : ParamSet) → IsSet set → 2049 ≤ q2 set
q2-large = at_least (λ set. q2 set) 2049 (refl, (refl, (refl, (refl, (refl, (refl, (refl, (refl, (refl, (refl, tt))))))))))

-- T of at least q and S of at least q2 are too large, whatever the other terms
too_noisy : (p q a b T c d : ℕ) → 1 ≤ p → q ≤ T → q * (a * b) ≤ 2 * p * (a * b) * T + c + d
too_noisy p q a b T c d some large =
    let once : a * b * q ≤ a * b * T = mul-le-mul_left (a * b) large in
    let more : 1 * (a * b * T) ≤ p * (a * b * T) = mul-le-mul_right (a * b * T) some in
    omega arith

too_heavy : (p q a b S c d : ℕ) → 1 ≤ p → b ≤ S → q * (a * b) ≤ c + d + p * q * a * S
too_heavy p q a b S c d some large =
    let once : q * a * b ≤ q * a * S = mul-le-mul_left (q * a) large in
    let more : 1 * (q * a * S) ≤ p * (q * a * S) = mul-le-mul_right (q * a * S) some in
    omega arith

-- Where T is at least q the left side isn't below the right one,
pub noisy_misses : (set : ParamSet) (row : NoiseRow) → IsSet set → q ≤ row.noise → noise_right set ≤ noise_left set row
noisy_misses set row is large =
    too_noisy (p set) q (q1 set) (q2 set) row.noise (p set * q * q2 set) (p set * q * q1 set * row.weight) (p-some set is) large

-- nor where S is at least q2.
pub heavy_misses : (set : ParamSet) (row : NoiseRow) → IsSet set → q2 set ≤ row.weight → noise_right set ≤ noise_left set row
heavy_misses set row is large =
    too_heavy (p set) q (q1 set) (q2 set) row.weight (2 * p set * (q1 set * q2 set) * row.noise) (p set * q * q2 set) (p-some set is) large

-- what misses doesn't fit
pub misses : (left right : ℕ) → right ≤ left → IsTrue false ↔ (left < right)
misses left right large = (λ h. absurd (false≢true h), λ h. absurd (omega arith))
