-- The negacyclic ring Z_q[x] / (x^N + 1), for every N and q. A polynomial is the list of its N
-- coefficients, each a residue below q; place k holds the coefficient of x^k. Each operation is one
-- whole-number function of the place, reduced modulo q once.
use Rattle.std.specs.Prelude.{ℕ, List, ◌+◌, ◌*◌, ◌%◌, ◌==◌, if◌then◌else◌, map, slice_index, pos, neg_ℤ, ◌+ℤ◌, ◌-ℤ◌, ◌*ℤ◌}
use Rattle.std.specs.List.{range_with_len}
use lib.IntN.{ℤ}
use Rattle.negacyclic.specs.Sums.{total}
use Rattle.negacyclic.specs.Residues.{residue}

-- What the power x^t counts at place k, where x^N = -1: 1 where t mod 2N is k, -1 where it is k + N, else 0.
unfoldable pub turn : ℕ → ℕ → ℕ → ℤ
turn N k t = if t % (2 * N) == k then pos 1 else (if t % (2 * N) == k + N then neg_ℤ (pos 1) else pos 0)

-- Place k of the product of a and b over the whole numbers: the double sum of a_i b_j x^(i + j).
unfoldable pub product_at : ℕ → (ℕ → ℤ) → (ℕ → ℤ) → ℕ → ℤ
product_at N a b k = total N (λ i. total N (λ j. turn N k (i + j) *ℤ (a i *ℤ b j)))

-- Place k of a(x^g), the automorphism of g (odd, below 2N): the sum of a_i x^(g i).
unfoldable pub tau_at : ℕ → ℕ → (ℕ → ℤ) → ℕ → ℤ
tau_at N g a k = total N (λ i. turn N k (g * i) *ℤ a i)

-- Place k of x^s a, for a power x^s: the sum of a_i x^(s + i).
unfoldable pub shift_at : ℕ → ℕ → (ℕ → ℤ) → ℕ → ℤ
shift_at N s a k = total N (λ i. turn N k (s + i) *ℤ a i)

-- The coefficients of a list, as whole numbers: 0 past its end.
unfoldable pub at : List ℕ → ℕ → ℤ
at a k = pos (slice_index a k)

-- The list of N residues of f 0 to f (N - 1).
unfoldable pub reduced : ℕ → ℕ → (ℕ → ℤ) → List ℕ
reduced q N f = map (λ k. residue q (f k)) (range_with_len 0 N)

-- The operations on polynomials.
unfoldable pub ring_zero : ℕ → ℕ → List ℕ
ring_zero q N = reduced q N (λ k. pos 0)

unfoldable pub ring_one : ℕ → ℕ → List ℕ
ring_one q N = reduced q N (λ k. if k == 0 then pos 1 else pos 0)

unfoldable pub ring_add : ℕ → ℕ → List ℕ → List ℕ → List ℕ
ring_add q N a b = reduced q N (λ k. at a k +ℤ at b k)

unfoldable pub ring_sub : ℕ → ℕ → List ℕ → List ℕ → List ℕ
ring_sub q N a b = reduced q N (λ k. at a k -ℤ at b k)

-- The sum of the first count polynomials of a sequence.
unfoldable pub ring_total : ℕ → ℕ → ℕ → (ℕ → List ℕ) → List ℕ
ring_total q N count a = reduced q N (λ k. total count (λ i. at (a i) k))

unfoldable pub ring_mul : ℕ → ℕ → List ℕ → List ℕ → List ℕ
ring_mul q N a b = reduced q N (product_at N (at a) (at b))

-- z a, for a whole number z
unfoldable pub ring_scale : ℕ → ℕ → ℤ → List ℕ → List ℕ
ring_scale q N z a = reduced q N (λ k. z *ℤ at a k)

-- x^s a
unfoldable pub ring_shift : ℕ → ℕ → ℕ → List ℕ → List ℕ
ring_shift q N s a = reduced q N (shift_at N s (at a))

-- a(x^g)
unfoldable pub tau : ℕ → ℕ → ℕ → List ℕ → List ℕ
tau q N g a = reduced q N (tau_at N g (at a))
