-- Laws of values, each the contract of a public function.
use Rattle.std.specs.Prelude.{ℕ, List, ◌≡◌, ◌<◌, length, All}
use Rattle.negacyclic.specs.Ring.{ring_add, ring_sub, ring_mul}
use Rattle.word_prime.specs.Lanes.{products}
use Rattle.ring_transform.specs.Points.{IsPrime, IsDegree, points}
use Rattle.ring_transform.specs.Values.{values, coefficients}

-- The values of a sum are the sums of the values,
abbrev pub ValuesOfSum : Type 0
ValuesOfSum = (p n : ℕ) (a b : List ℕ) → IsPrime p → IsDegree n → length a ≡ n → length b ≡ n
    → values p (points p n) (ring_add p n a b) ≡ ring_add p n (values p (points p n) a) (values p (points p n) b)

-- those of a difference the differences,
abbrev pub ValuesOfDifference : Type 0
ValuesOfDifference = (p n : ℕ) (a b : List ℕ) → IsPrime p → IsDegree n → length a ≡ n → length b ≡ n
    → values p (points p n) (ring_sub p n a b) ≡ ring_sub p n (values p (points p n) a) (values p (points p n) b)

-- and those of the negacyclic product the products.
abbrev pub ValuesOfProduct : Type 0
ValuesOfProduct = (p n : ℕ) (a b : List ℕ) → IsPrime p → IsDegree n → length a ≡ n → length b ≡ n
    → values p (points p n) (ring_mul p n a b) ≡ products p (values p (points p n) a) (values p (points p n) b)

-- Lists of n residues with the same values are the same.
abbrev pub ValuesDetermine : Type 0
ValuesDetermine = (p n : ℕ) (a b : List ℕ) → IsPrime p → IsDegree n → length a ≡ n → length b ≡ n → All (λ x. x < p) a → All (λ x. x < p) b
    → values p (points p n) a ≡ values p (points p n) b → a ≡ b

-- The coefficients that belong to the values of a polynomial of n residues are its own.
abbrev pub CoefficientsOfValues : Type 0
CoefficientsOfValues = (p n : ℕ) (a : List ℕ) → IsPrime p → IsDegree n → length a ≡ n → All (λ x. x < p) a → coefficients p n (values p (points p n) a) ≡ a
