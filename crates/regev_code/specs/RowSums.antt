-- The rows of a digit sum.
use Rattle.std.specs.Prelude.{ℕ, List, length}
use Rattle.negacyclic.specs.Ring.{ring_mul, ring_total}
use Rattle.spiral_model.specs.Sets.{q}
use Rattle.spiral_model.specs.Words.{Poly, Cipher, row_of, cipher_at}

-- row i of the sum over k of form k times key ciphertext k
abbrev pub row_sum : ℕ → List Poly → List Cipher → ℕ → Poly
row_sum N forms key i = ring_total q N (length forms) (λ k. ring_mul q N (row_of forms k) (row_of (cipher_at key k) i))
