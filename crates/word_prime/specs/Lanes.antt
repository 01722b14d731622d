-- Moduli that fit a word, and lists of residues place by place.
use Rattle.std.specs.Prelude.{ℕ, List, ◌+◌, ◌*◌, ◌^◌, ◌<◌, ◌≤◌, length, map, slice_index, ◌*ℤ◌}
use Rattle.std.specs.List.{range_with_len}
use Rattle.negacyclic.specs.Ring.{at, reduced}

-- A modulus of at most 31 bits: a sum of two residues fits in 32 bits, a product in 64.
abbrev pub IsModulus : ℕ → Type 0
IsModulus m = (0 < m) × (m ≤ 2 ^ 31)

-- The products of two lists modulo m, place by place. The sums and the differences are `ring_add` and `ring_sub`.
unfoldable pub products : ℕ → List ℕ → List ℕ → List ℕ
products m a b = reduced m (length a) (λ k. at a k *ℤ at b k)

-- The products of two lists added to the numbers of a third, place by place, and not reduced.
unfoldable pub accumulated : List ℕ → List ℕ → List ℕ → List ℕ
accumulated sums a b = map (λ k. slice_index sums k + slice_index a k * slice_index b k) (range_with_len 0 (length sums))
