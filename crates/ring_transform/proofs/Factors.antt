-- Products with a factor, reduced by its quotient.
use Rattle.std.proofs.Common.{◌≡◌, ℕ, ◌+◌, ◌-◌, ◌*◌, ◌/◌, ◌%◌, ◌^◌, ◌<◌, ◌≤◌, pos, ◌-ℤ◌, ◌*ℤ◌, neg_ℤ, sym, ◌∙◌, ap, arith, mod-lt}
use Rattle.std.proofs.lemmas.Int.{ints}
use Rattle.std.proofs.lemmas.Nat.{div-add-mod', div_below}
use Rattle.std.proofs.Math.Nat.{mul-le-mul_right}
use Rattle.negacyclic.specs.Residues.{residue}
use Rattle.negacyclic.proofs.Integers.{neg-mul_ℤ, mul_comm_ℤ}
use Rattle.negacyclic.proofs.Congruence.{Congruent, congruent_refl, congruent_trans, congruent_equal, congruent_mul}
use Rattle.negacyclic.proofs.Residues.{residue_is, residue_same}
use Rattle.ring_transform.specs.Tables.{IsFactor}

-- the guess is the quotient of the product, or 1 less
guess_bounds : (p w q r y g : ℕ) → 0 < p → q * p + r ≡ w * 2 ^ 32 → r < p → y < 2 ^ 32 → g * 2 ^ 32 ≤ y * q → y * q < g * 2 ^ 32 + 2 ^ 32 → (g * p ≤ w * y) × (w * y < g * p + 2 * p)
guess_bounds p w q r y g some split small narrow low high =
    let whole : (q * p + r) * y ≡ w * 2 ^ 32 * y = ap (λ (n : ℕ). n * y) split in
    let least : g * 2 ^ 32 * p ≤ y * q * p = mul-le-mul_right p low in
    let next : y * q + 1 ≤ g * 2 ^ 32 + 2 ^ 32 = omega arith in
    let most : (y * q + 1) * p ≤ (g * 2 ^ 32 + 2 ^ 32) * p = mul-le-mul_right p next in
    let below : r + 1 ≤ p = omega arith in
    let rest : (r + 1) * y ≤ p * y = mul-le-mul_right y below in
    let narrow' : y + 1 ≤ 2 ^ 32 = omega arith in
    let few : (y + 1) * p ≤ 2 ^ 32 * p = mul-le-mul_right p narrow' in (omega arith, omega arith)

pub guess_near : (p w q y : ℕ) → 0 < p → IsFactor p w q → y < 2 ^ 32 → (y * q / 2 ^ 32 * p ≤ w * y) × (w * y < y * q / 2 ^ 32 * p + 2 * p)
guess_near p w q y some factor narrow =
    let split : q * p + w * 2 ^ 32 % p ≡ w * 2 ^ 32 = ap (λ (n : ℕ). n * p + w * 2 ^ 32 % p) factor.quotient_is ∙ div-add-mod' (w * 2 ^ 32) p in
    guess_bounds p w q (w * 2 ^ 32 % p) y (y * q / 2 ^ 32) some split (mod-lt (w * 2 ^ 32) some) narrow (omega arith) (omega arith)

-- a number less so many times p
less_times : (p n g : ℕ) (r : ℕ) → 0 < p → r < p → r + g * p ≡ n → r ≡ residue p (pos n)
less_times p n g r some below is =
    let e = neg-mul_ℤ (pos g) (pos p) in
    sym (residue_is some below (record { times = neg_ℤ (pos g); differ = omega (arith, ints) }))

-- what is left is the residue, or p more
pub rest_low : (p w q y : ℕ) → 0 < p → IsFactor p w q → y < 2 ^ 32 → w * y - y * q / 2 ^ 32 * p < p → w * y - y * q / 2 ^ 32 * p ≡ residue p (pos w *ℤ pos y)
rest_low p w q y some factor narrow below =
    let near = guess_near p w q y some factor narrow in
    let least = near.0 in less_times p (w * y) (y * q / 2 ^ 32) (w * y - y * q / 2 ^ 32 * p) some below (omega arith)

pub rest_high : (p w q y : ℕ) → 0 < p → IsFactor p w q → y < 2 ^ 32 → p ≤ w * y - y * q / 2 ^ 32 * p → w * y - y * q / 2 ^ 32 * p - p ≡ residue p (pos w *ℤ pos y)
rest_high p w q y some factor narrow past =
    let near = guess_near p w q y some factor narrow in
    let least = near.0 in
    let most = near.1 in
    less_times p (w * y) (y * q / 2 ^ 32 + 1) (w * y - y * q / 2 ^ 32 * p - p) some (omega arith) (omega arith)

-- it is small
pub rest_small : (p w q y : ℕ) → 0 < p → p ≤ 2 ^ 31 → IsFactor p w q → y < 2 ^ 32 → w * y - y * q / 2 ^ 32 * p < 2 ^ 32
rest_small p w q y some few factor narrow = let near = guess_near p w q y some factor narrow in let least = near.0 in let most = near.1 in omega arith

-- the quotient of a factor fits
pub quotient_fits : (p w : ℕ) → w < p → w * 2 ^ 32 / p < 2 ^ 32
quotient_fits p w below =
    let small : w * 2 ^ 32 < 2 ^ 32 * p = omega arith in
    div_below (w * 2 ^ 32) p (2 ^ 32) (omega arith) small

-- a difference that was kept above 0
pub lifted_product : (p x y w r : ℕ) → 0 < p → y < p → r ≡ residue p (pos w *ℤ pos (x + p - y)) → r ≡ residue p ((pos x -ℤ pos y) *ℤ pos w)
lifted_product p x y w r some below is =
    let lifted : Congruent p (pos (x + p - y)) (pos x -ℤ pos y) = record { times = pos 1; differ = omega (arith, ints) } in
    is ∙ residue_same some (congruent_trans (congruent_equal (mul_comm_ℤ (pos w) (pos (x + p - y)))) (congruent_mul lifted (congruent_refl (pos w))))
