-- The lengths of polynomials, what holds of each, and how values of them stand for them.
use Rattle.std.specs.Prelude.{ℕ, List, ◌≡◌, ◌<◌, ◌⊎◌, length, All}
use Rattle.spiral_sets.specs.Sets.{q}
use Rattle.word_prime.specs.Halves.{p1, p2, joined}
use Rattle.ring_transform.specs.Points.{points}
use Rattle.ring_transform.specs.Values.{values, coefficients}

-- the two degrees
abbrev pub IsDegree : ℕ → Type 0
IsDegree N = (N ≡ 256) ⊎ (N ≡ 2048)

-- every number is a residue
abbrev pub AreResidues : List ℕ → Type 0
AreResidues a = All (λ x. x < q) a

-- The polynomial modulo q that has these values at the points, modulo the first prime and modulo the second.
unfoldable pub interpolated : List ℕ → List ℕ → List ℕ
interpolated a b = joined (coefficients p1 (length a) a) (coefficients p2 (length a) b)

-- The values of a polynomial, modulo each of the two primes.
pub record AreValues (a b : List ℕ) : Type 0 where
  pub degree : IsDegree (length a)
  pub same : length b ≡ length a
  pub first : values p1 (points p1 (length a)) (coefficients p1 (length a) a) ≡ a
  pub second : values p2 (points p2 (length a)) (coefficients p2 (length a) b) ≡ b
  pub first_residues : All (λ x. x < p1) a
  pub second_residues : All (λ x. x < p2) b
