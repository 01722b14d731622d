-- Powers of two that digits count, and multiples by their opposites.
use Rattle.std.proofs.Common.{◌≡◌, ℕ, suc, ◌+◌, ◌-◌, ◌*◌, ◌^◌, ◌<◌, ◌≤◌, pos, neg_ℤ, List, ◌∙◌, ap, arith, sym, mul-le-mul_right}
use Rattle.std.proofs.Math.Nat.{div-mul-le_self}
use Rattle.std.proofs.Math.Pow.{pow_mono}
use Rattle.negacyclic.specs.Residues.{residue}
use Rattle.negacyclic.specs.Ring.{ring_scale}
use Rattle.negacyclic.proofs.Signed.{negative_some}
use Rattle.negacyclic.proofs.Reduction.{scale_residue}
use Rattle.ring_poly.proofs.Modulus.{q_is, q_some}
use Rattle.spiral_sets.specs.Sets.{q, digit_count}
use Rattle.spiral_sets.specs.declared.dimensions.TheConstants.{Q}

-- ---- what a digit counts

digit_low : (w t k : ℕ) → 1 ≤ w → t * w ≤ 55 + w → k < t → w * k ≤ 55
digit_low w t k some most h =
    let step : suc k * w ≤ t * w = mul-le-mul_right w h in
    omega arith

-- where a digit begins
pub digit_place : (w k : ℕ) → 1 ≤ w → k < digit_count w → w * k ≤ 55
digit_place w k some h = digit_low w (digit_count w) k some (omega (arith, div-mul-le_self (56 + w - 1) w)) h

-- what it counts is below the modulus
pub power-below : (w k : ℕ) → 1 ≤ w → k < digit_count w → 2 ^ (w * k) < q
unfolding q
power-below w k some h =
    let place = digit_place w k some h in
    let most : 2 ^ (w * k) ≤ 2 ^ 55 = pow_mono place in
    omega arith

-- ---- its opposite

-- the residue of -z, as the code works it out
pub opposite : (z power : ℕ) → 1 ≤ power → power < q → power ≡ z → Q - power ≡ residue q (neg_ℤ (pos z))
opposite z power some below is =
    ap (λ (n : ℕ). n - power) (sym q_is) ∙ negative_some q power (omega arith) below ∙ ap (λ (x : ℕ). residue q (neg_ℤ (pos x))) is

-- A multiple by that residue is the negative multiple.
pub negative_multiple : (N z x : ℕ) (a out : List ℕ) → x ≡ residue q (neg_ℤ (pos z)) → out ≡ ring_scale q N (pos x) a → out ≡ ring_scale q N (neg_ℤ (pos z)) a
negative_multiple N z x a out opposite_is is = is ∙ scale_residue q N x (neg_ℤ (pos z)) a q_some opposite_is
