-- The tables of the transform.
use Rattle.std.specs.Prelude.{ℕ, List, ◌≡◌, ◌+◌, ◌*◌, ◌/◌, ◌%◌, ◌^◌, ◌<◌, length, slice_index}
use Rattle.std.proofs.Common.{suc}
use Rattle.ring_transform.specs.Points.{IsPrime, IsDegree, node, inverse_node, points}

-- Entry 2^d + j is the first of the two nodes below node j at depth d, the one by which its layer multiplies.
abbrev pub AreTwiddles : ℕ → List ℕ → Type 0
AreTwiddles p list = (d j : ℕ) → j < 2 ^ d → 2 ^ d + j < length list → slice_index list (2 ^ d + j) ≡ node p (suc d) (2 * j)

-- It is the inverse of that node.
abbrev pub AreInverses : ℕ → List ℕ → Type 0
AreInverses p list = (d j : ℕ) → j < 2 ^ d → 2 ^ d + j < length list → slice_index list (2 ^ d + j) ≡ inverse_node p (suc d) (2 * j)

-- A factor w and the quotient by which products with it are reduced: floor (w 2^32 / p).
pub record IsFactor (p w quotient : ℕ) : Type 0 where
  pub below : w < p
  pub quotient_is : quotient ≡ w * 2 ^ 32 / p

-- The quotients of all entries.
pub record AreQuotients (p : ℕ) (list quotients : List ℕ) : Type 0 where
  pub count : length quotients ≡ length list
  pub factor : (k : ℕ) → k < length list → IsFactor p (slice_index list k) (slice_index quotients k)

-- The tables for a prime and a degree n: scale is the inverse of n.
pub record AreTables (p n : ℕ) (twiddles quotients inverses inverse_quotients leaves : List ℕ) (scale scale_quotient : ℕ) : Type 0 where
  pub prime : IsPrime p
  pub degree : IsDegree n
  pub twiddle_count : length twiddles ≡ n
  pub factors : AreTwiddles p twiddles
  pub factor_quotients : AreQuotients p twiddles quotients
  pub inverse_count : length inverses ≡ n
  pub inverse_factors : AreInverses p inverses
  pub inverse_factor_quotients : AreQuotients p inverses inverse_quotients
  pub at_points : leaves ≡ points p n
  pub scale_factor : IsFactor p scale scale_quotient
  pub unit : n * scale % p ≡ 1
