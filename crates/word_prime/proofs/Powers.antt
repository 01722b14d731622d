-- Powers by squares, modulo m.
use Rattle.std.proofs.Common.{◌≡◌, ◌≢◌, ℕ, pos, ◌*ℤ◌, ◌+◌, ◌*◌, ◌/◌, ◌%◌, ◌^◌, sym, ◌∙◌, ap, arith}
use Rattle.std.proofs.lemmas.Nat.{pow-add, mul-pow, mul-mod_first, mul-mod_second, pow-mod}
use Rattle.std.proofs.Math.Nat.{pow-suc, pow-zero, one-mul}
use Rattle.negacyclic.specs.Residues.{residue}
use Rattle.negacyclic.proofs.Reduction.{residue_product}

square_power : (p h : ℕ) → (p * p) ^ h ≡ p ^ (h + h)
square_power p h = mul-pow p p h ∙ sym (pow-add p h h)

-- a power of the residue of a square, times a factor
reduced_square : (m b p h : ℕ) → (b * (p * p % m) ^ h) % m ≡ (b * p ^ (h + h)) % m
reduced_square m b p h =
    sym (mul-mod_second b ((p * p % m) ^ h) m)
    ∙ ap (λ (x : ℕ). (b * x) % m) (pow-mod (p * p) h m)
    ∙ mul-mod_second b ((p * p) ^ h) m
    ∙ ap (λ (x : ℕ). (b * x) % m) (square_power p h)

-- one step with an even exponent
power_even : (m b p r : ℕ) → r % 2 ≡ 0 → (b * (p * p % m) ^ (r / 2)) % m ≡ (b * p ^ r) % m
power_even m b p r even =
    let whole : r / 2 + r / 2 ≡ r = omega arith in
    reduced_square m b p (r / 2) ∙ ap (λ (e : ℕ). (b * p ^ e) % m) whole

-- and one with an odd one
power_odd : (m b p r : ℕ) → r % 2 ≡ 1 → (b * p % m * (p * p % m) ^ (r / 2)) % m ≡ (b * p ^ r) % m
power_odd m b p r odd =
    let whole : r ≡ 1 + (r / 2 + r / 2) = omega arith in
    mul-mod_first (b * p) ((p * p % m) ^ (r / 2)) m
    ∙ reduced_square m (b * p) p (r / 2)
    ∙ ap (λ (x : ℕ). x % m) (moved b p (p ^ (r / 2 + r / 2)))
    ∙ ap (λ (x : ℕ). (b * x) % m) (sym (pow-add p 1 (r / 2 + r / 2)) ∙ ap (λ (e : ℕ). p ^ e) (sym whole))
  where
    moved : (b p x : ℕ) → b * p * x ≡ b * (p ^ 1 * x)
    moved b p x =
        let once : p ^ 1 ≡ p = pow-suc p 0 ∙ ap (λ (n : ℕ). n * p) (pow-zero p) ∙ one-mul p in rw once (omega arith)

-- the same steps as the code takes them
pub step_even : (m b p r q v : ℕ) → r % 2 ≢ 1 → q ≡ residue m (pos p *ℤ pos p) → (b * p ^ r) % m ≡ v → (b * q ^ (r / 2)) % m ≡ v
step_even m b p r q v even square so_far =
    let square' : q ≡ p * p % m = square ∙ residue_product m p p in
    rw square' (power_even m b p r (omega arith) ∙ so_far)

pub step_odd : (m b p r q c v : ℕ) → r % 2 ≡ 1 → q ≡ residue m (pos p *ℤ pos p) → c ≡ residue m (pos b *ℤ pos p) → (b * p ^ r) % m ≡ v → (c * q ^ (r / 2)) % m ≡ v
step_odd m b p r q c v odd square product so_far =
    let square' : q ≡ p * p % m = square ∙ residue_product m p p in
    let product' : c ≡ b * p % m = product ∙ residue_product m b p in
    rw (square', product') (power_odd m b p r odd ∙ so_far)
