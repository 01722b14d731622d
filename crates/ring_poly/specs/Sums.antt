-- Sums of products that are reduced once, at their end.
use Rattle.std.specs.Prelude.{ℕ, List, ◌-◌, ◌*◌, ◌≤◌, ◌%◌, map, All}
use Rattle.word_prime.specs.Halves.{p1, p2}
use Rattle.ring_poly.specs.Polynomials.{interpolated, AreValues}

-- A sum of products: the polynomial, and how many products were added.
pub record ProductSum : Type 0 where
  pub value : List ℕ
  pub count : ℕ

-- the residues of sums modulo p
abbrev pub residues_of : ℕ → List ℕ → List ℕ
residues_of p sums = map (λ s. s % p) sums

-- The sum that is held as sums of values modulo the two primes.
abbrev pub sum_held : List ℕ → List ℕ → ℕ → ProductSum
sum_held a b count = record { value = interpolated (residues_of p1 a) (residues_of p2 b); count = count }

-- Sums of at most so many products of residues, of values of a polynomial modulo each of the two primes: 256 of them stay below 2^64.
pub record AreSums (count : ℕ) (a b : List ℕ) : Type 0 where
  pub few : count ≤ 256
  pub values : AreValues (residues_of p1 a) (residues_of p2 b)
  pub first_most : All (λ s. s ≤ count * ((p1 - 1) * (p1 - 1))) a
  pub second_most : All (λ s. s ≤ count * ((p2 - 1) * (p2 - 1))) b
