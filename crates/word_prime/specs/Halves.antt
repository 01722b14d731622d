-- Lists of residues modulo q as pairs of lists, one for each of the two primes of which q is the product.
use Rattle.std.specs.Prelude.{ℕ, List, ◌≡◌, ◌<◌, ◌%◌, length, map, All, pos, ◌+ℤ◌, ◌*ℤ◌}
use Rattle.negacyclic.specs.Ring.{at, reduced}
use Rattle.spiral_sets.specs.Sets.{q}

-- the two primes
abbrev pub p1 : ℕ
p1 = 268369921

abbrev pub p2 : ℕ
p2 = 249561089

-- The residues of a list's numbers modulo p.
unfoldable pub half : ℕ → List ℕ → List ℕ
half p a = map (λ x. x % p) a

-- The list of residues modulo q whose numbers are those of a modulo p1 and those of b modulo p2, by Chinese remainders: the first
-- factor is 1 modulo p1 and 0 modulo p2, the second 0 and 1.
unfoldable pub joined : List ℕ → List ℕ → List ℕ
joined a b = reduced q (length a) (λ k. pos 40838229011788690 *ℤ at a k +ℤ pos 26136460727815280 *ℤ at b k)

-- Two lists of residues, as long as each other.
pub record AreHalves (a b : List ℕ) : Type 0 where
  pub same : length b ≡ length a
  pub first : All (λ x. x < p1) a
  pub second : All (λ x. x < p2) b
