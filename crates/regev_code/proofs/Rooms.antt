-- The least width of each set, and how many digits its room holds.
use Rattle.std.proofs.Common.{◌≡◌, ℕ, ◌*◌, ◌≤◌, refl, arith, ap}
use Rattle.std.proofs.Math.Nat.{mul-le-mul_right}
use Rattle.spiral_sets.specs.declared.param_set.ParamSet.{ParamSet}
use Rattle.spiral_model.specs.Sets.{IsSet, digit_count, smallest_width}
use Rattle.spiral_sets.proofs.SetBounds.{at_least}
use Rattle.gadget_digits.proofs.DigitRows.{digit_count-fewer}
use Rattle.regev_code.specs.Products.{IsWidth}

pub smallest_width-some : (set : ParamSet) → IsSet set → 1 ≤ smallest_width set
smallest_width-some = at_least (λ set. smallest_width set) 1 (refl, (refl, (refl, (refl, (refl, (refl, (refl, (refl, (refl, (refl, tt))))))))))

-- the digits of a width of the set fit its room
pub digits_fit : (set : ParamSet) (w N len : ℕ) → IsSet set → IsWidth set w → N ≡ set.degree → len ≡ digit_count (smallest_width set) * set.degree
    → digit_count w * N ≤ len
digits_fit set w N len is width degree count =
    let fewer : digit_count w * set.degree ≤ digit_count (smallest_width set) * set.degree =
    mul-le-mul_right set.degree (digit_count-fewer (smallest_width set) w (smallest_width-some set is) width.least) in
    let same : digit_count w * N ≡ digit_count w * set.degree = ap (λ (n : ℕ). digit_count w * n) degree in
    omega arith
