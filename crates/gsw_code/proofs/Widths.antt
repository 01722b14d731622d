-- What the digits of GSW ciphertexts count.
use Rattle.std.proofs.Common.{ℕ, suc, ◌+◌, ◌-◌, ◌*◌, ◌^◌, ◌<◌, ◌≤◌, refl, arith, mul-le-mul_right}
use Rattle.std.proofs.Math.Nat.{div-mul-le_self}
use Rattle.std.proofs.Math.Pow.{pow_mono}
use Rattle.spiral_sets.specs.declared.param_set.ParamSet.{ParamSet}
use Rattle.spiral_sets.specs.Sets.{IsSet, q, digit_count, rows}
use Rattle.spiral_sets.proofs.SetBounds.{at_least}

pub w_gsw-some : (set : ParamSet) → IsSet set → 1 ≤ set.w_gsw
w_gsw-some = at_least (λ set. set.w_gsw) 1 (refl, (refl, (refl, (refl, (refl, (refl, (refl, (refl, (refl, (refl, tt))))))))))

-- what a digit counts fits below the modulus
digit_low : (w t k : ℕ) → 1 ≤ w → t * w ≤ 55 + w → k < t → w * k ≤ 55
digit_low w t k some most h =
    let step : suc k * w ≤ t * w = mul-le-mul_right w h in
    omega arith

pub digit_place : (set : ParamSet) (k : ℕ) → IsSet set → k < digit_count set.w_gsw → set.w_gsw * k ≤ 55
digit_place set k is h =
    digit_low set.w_gsw (digit_count set.w_gsw) k (w_gsw-some set is) (omega (arith, div-mul-le_self (56 + set.w_gsw - 1) set.w_gsw)) h

pub power-below : (set : ParamSet) (k : ℕ) → IsSet set → k < digit_count set.w_gsw → 2 ^ (set.w_gsw * k) < q
unfolding q
power-below set k is h =
    let place = digit_place set k is h in
    let most : 2 ^ (set.w_gsw * k) ≤ 2 ^ 55 = pow_mono place in
    omega arith

-- there is a row below row 0
pub rows-some : (set : ParamSet) → IsSet set → 1 ≤ rows set
rows-some = at_least (λ set. rows set) 1 (refl, (refl, (refl, (refl, (refl, (refl, (refl, (refl, (refl, (refl, tt))))))))))
