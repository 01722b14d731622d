-- Values of polynomials at points, and polynomials from their values.
use Rattle.std.specs.Prelude.{ℕ, List, ◌-◌, ◌*◌, ◌/◌, ◌^◌, length, map, slice_index, pos, ◌*ℤ◌}
use lib.IntN.{ℤ}
use Rattle.negacyclic.specs.Sums.{total}
use Rattle.negacyclic.specs.Residues.{residue}
use Rattle.negacyclic.specs.Ring.{at, reduced}
use Rattle.ring_transform.specs.Points.{points}

-- The value at z of the polynomial with the coefficients f 0 to f (n - 1), over the whole numbers.
unfoldable pub value_at : ℕ → (ℕ → ℤ) → ℕ → ℤ
value_at n f z = total n (λ i. f i *ℤ pos (z ^ i))

-- The values of a polynomial at each point, modulo p.
unfoldable pub values : ℕ → List ℕ → List ℕ → List ℕ
values p points a = map (λ z. residue p (value_at (length a) (at a) z)) points

-- The inverse of a degree n modulo p, where n divides p - 1: n times it is (n - 1) p + 1.
unfoldable pub inverse_of : ℕ → ℕ → ℕ
inverse_of p n = p - (p - 1) / n

-- The polynomial of degree n that has these values at the points: coefficient i is the sum of each value times its point to the power
-- of -i, which is that of 2n - i, divided by n.
unfoldable pub coefficients : ℕ → ℕ → List ℕ → List ℕ
coefficients p n v = reduced p n (λ i. pos (inverse_of p n) *ℤ total n (λ k. at v k *ℤ pos (slice_index (points p n) k ^ (2 * n - i))))
