-- The row whose noise is measured, and the room that the measuring takes.
use Rattle.std.specs.Prelude.{ℕ, Bool, ◌≡◌, ◌<◌, ◌^◌, true, false, length}
use Rattle.spiral_sets.specs.declared.param_set.ParamSet.{ParamSet}
use Rattle.spiral_sets.specs.Sets.{IsSet, q, rows}
use Rattle.negacyclic.specs.Ring.{ring_zero, ring_sub}
use Rattle.spiral_model.specs.Words.{Poly, poly_of}
use Rattle.regev_code.specs.Seen.{Secrets}
use Rattle.regev_code.specs.Shapes.{OfDegree, numbers_under, under}

-- The degree, the secrets, whether the row's is the scalar one or one of s_1 to s_n, and which of these it is, counted from 0.
pub record MeasuredRow : Type 0 where
  pub degree : ℕ
  pub secrets : Secrets
  pub scalar : Bool
  pub row : ℕ

-- -s, for a secret s
abbrev pub opposite : ℕ → Poly → Poly
opposite N secret = ring_sub q N (ring_zero q N) secret

-- what the room keeps: the opposite of the row's secret, and further polynomials of that degree
pub record IsWorkspace (measured : MeasuredRow) (opposed form phase message : Poly) : Type 0 where
  pub degrees : OfDegree measured.degree measured.secrets
  pub within : measured.row < length (numbers_under measured.secrets measured.scalar)
  pub few : measured.row < 2 ^ 31
  pub opposite_is : opposed ≡ opposite measured.degree (poly_of (under measured.degree measured.secrets measured.scalar) measured.row)
  pub form_degree : length form ≡ length opposed
  pub phase_degree : length phase ≡ length opposed
  pub message_degree : length message ≡ length opposed

-- a row in which a set's first-dimension and GSW ciphertexts stand, in the set's ring: one of n, or the scalar one where the set packs
pub record IsRowOf (set : ParamSet) (ring : ℕ) (measured : MeasuredRow) : Type 0 where
  pub known : IsSet set
  pub scalar : measured.scalar ≡ set.pack
  pub ring_degree : ring ≡ set.degree
  pub degree : measured.degree ≡ set.degree
  pub within : measured.row < rows set

-- one of the n rows in which the lift keys of a set that packs stand, beside the scalar secret
pub record IsLiftRow (set : ParamSet) (ring : ℕ) (measured : MeasuredRow) : Type 0 where
  pub known : IsSet set
  pub packs : set.pack ≡ true
  pub plain : measured.scalar ≡ false
  pub ring_degree : ring ≡ set.degree
  pub degree : measured.degree ≡ set.degree
  pub within : measured.row < set.n
  pub one : length (numbers_under measured.secrets true) ≡ 1
