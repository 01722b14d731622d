-- What each layer of the transform keeps.
use Rattle.std.specs.Prelude.{ℕ, ◌+◌, ◌*◌, ◌^◌, ◌<◌, pos, ◌*ℤ◌}
use lib.IntN.{ℤ}
use Rattle.negacyclic.proofs.Congruence.{Congruent}
use Rattle.ring_transform.specs.Points.{node}
use Rattle.ring_transform.specs.Values.{value_at}

-- Node j at depth d stands for polynomials modulo x^(2^m s) less that node, and the node m layers below it, number i of 2^m, for
-- polynomials modulo x^s less that one. The parts, of s coefficients each, are the remainders of the whole, up to a factor: at each z
-- whose power z^s is the lower node, `factor` times part i has the value of the whole.
pub record Remainders (p s m d j factor : ℕ) (whole parts : ℕ → ℤ) : Type 0 where
  pub part : (i z : ℕ) → i < 2 ^ m → Congruent p (pos (z ^ s)) (pos (node p (d + m) (j * 2 ^ m + i)))
      → Congruent p (pos factor *ℤ value_at s (λ t. parts (i * s + t)) z) (value_at (2 ^ m * s) whole z)
