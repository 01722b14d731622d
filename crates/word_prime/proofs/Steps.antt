-- Sums, differences and products of residues as one conditional step, and that they are residues.
use Rattle.std.proofs.Common.{◌≡◌, ℕ, ◌+◌, ◌-◌, ◌*◌, ◌%◌, ◌<◌, ◌≤◌, pos, ◌+ℤ◌, ◌-ℤ◌, ◌*ℤ◌, refl, sym}
use Rattle.negacyclic.specs.Residues.{residue}
use Rattle.negacyclic.proofs.Residues.{residue-below}
use Rattle.negacyclic.proofs.Reduction.{residue_sum_low, residue_sum_high, residue_difference_low, residue_difference_high, residue_product}

-- a sum below the modulus, and another
pub sum_low : (m x y : ℕ) → x + y < m → x + y ≡ residue m (pos x +ℤ pos y)
sum_low m x y h = sym (residue_sum_low m x y h)

pub sum_high : (m x y : ℕ) → x < m → y < m → m ≤ x + y → x + y - m ≡ residue m (pos x +ℤ pos y)
sum_high m x y hx hy h = sym (residue_sum_high m x y hx hy h)

-- a difference below 0, and another
pub difference_low : (m x y : ℕ) → y < m → x < y → x + m - y ≡ residue m (pos x -ℤ pos y)
difference_low m x y hy h = sym (residue_difference_low m x y hy h)

pub difference_high : (m x y : ℕ) → x < m → y ≤ x → x - y ≡ residue m (pos x -ℤ pos y)
difference_high m x y hx h = sym (residue_difference_high m x y hx h)

-- a product
pub product_reduced : (m x y : ℕ) → x * y % m ≡ residue m (pos x *ℤ pos y)
product_reduced m x y = sym (residue_product m x y)

-- a sum with a product
pub sum_of_product_reduced : (m s x y : ℕ) → (s + x * y) % m ≡ residue m (pos s +ℤ pos x *ℤ pos y)
unfolding residue
sum_of_product_reduced m s x y = refl

pub ruleset steps = (sum_low, sum_high, difference_low, difference_high, product_reduced, sum_of_product_reduced, residue-below)
