-- What the operations on polynomials give are lists of N residues below q; and lists of N zeros, which are 0.
use Rattle.std.proofs.Common.{◌≡◌, ℕ, ◌+◌, ◌<◌, ◌==◌, if◌then◌else◌, ℤ, pos, ◌+ℤ◌, ◌-ℤ◌, ◌*ℤ◌, List, length, replicate, All, refl, sym, ◌∙◌, ap, arith}
use Rattle.std.proofs.lemmas.Int.{ints}
use Rattle.std.proofs.lemmas.List.{get_or-replicate, length-replicate}
use Rattle.std.proofs.lemmas.List.Elements.{All-replicate}
use Rattle.negacyclic.specs.Sums.{total}
use Rattle.negacyclic.specs.Ring.{product_at, shift_at, tau_at, at, ring_zero, ring_one, ring_add, ring_sub, ring_total, ring_mul, ring_scale, ring_shift, tau}
use Rattle.negacyclic.proofs.Sums.{total_same, total_none, total_more}
use Rattle.negacyclic.proofs.Congruence.{congruent_equal}
use Rattle.negacyclic.proofs.Ring.{ring_add_comm, ring_add_assoc, ring_add_zero, ring_total_none, ring_total_more}
use Rattle.negacyclic.proofs.Stands.{Follows, Stands, follows_at, stands_at, stands_same, stands_zero, reduced_same, length-reduced, reduced_below, add_of, total_of}

-- ---- how many coefficients there are

-- 0 and 1
pub length-ring_zero : (q N : ℕ) → length (ring_zero q N) ≡ N
unfolding ring_zero
length-ring_zero q N = length-reduced q N (λ k. pos 0)

pub length-ring_one : (q N : ℕ) → length (ring_one q N) ≡ N
unfolding ring_one
length-ring_one q N = length-reduced q N (λ k. if k == 0 then pos 1 else pos 0)

-- sums and differences
pub length-ring_add : (q N : ℕ) (a b : List ℕ) → length (ring_add q N a b) ≡ N
unfolding ring_add
length-ring_add q N a b = length-reduced q N (λ k. at a k +ℤ at b k)

pub length-ring_sub : (q N : ℕ) (a b : List ℕ) → length (ring_sub q N a b) ≡ N
unfolding ring_sub
length-ring_sub q N a b = length-reduced q N (λ k. at a k -ℤ at b k)

pub length-ring_total : (q N count : ℕ) (a : ℕ → List ℕ) → length (ring_total q N count a) ≡ N
unfolding ring_total
length-ring_total q N count a = length-reduced q N (λ k. total count (λ i. at (a i) k))

-- products and multiples
pub length-ring_mul : (q N : ℕ) (a b : List ℕ) → length (ring_mul q N a b) ≡ N
unfolding ring_mul
length-ring_mul q N a b = length-reduced q N (product_at N (at a) (at b))

pub length-ring_scale : (q N : ℕ) (z : ℤ) (a : List ℕ) → length (ring_scale q N z a) ≡ N
unfolding ring_scale
length-ring_scale q N z a = length-reduced q N (λ k. z *ℤ at a k)

-- products with a power of x, and automorphisms
pub length-ring_shift : (q N s : ℕ) (a : List ℕ) → length (ring_shift q N s a) ≡ N
unfolding ring_shift
length-ring_shift q N s a = length-reduced q N (shift_at N s (at a))

pub length-tau : (q N g : ℕ) (a : List ℕ) → length (tau q N g a) ≡ N
unfolding tau
length-tau q N g a = length-reduced q N (tau_at N g (at a))

-- For `simp` and `using`: how many coefficients each operation gives.
pub ruleset ring_lengths = (length-ring_zero, length-ring_one, length-ring_add, length-ring_sub, length-ring_total, length-ring_mul, length-ring_scale, length-ring_shift, length-tau)

-- ---- they are residues

-- 0 and 1
pub ring_zero-below : (q N : ℕ) → 0 < q → All (λ x. x < q) (ring_zero q N)
unfolding ring_zero
ring_zero-below q N some = reduced_below q N (λ k. pos 0) some

pub ring_one-below : (q N : ℕ) → 0 < q → All (λ x. x < q) (ring_one q N)
unfolding ring_one
ring_one-below q N some = reduced_below q N (λ k. if k == 0 then pos 1 else pos 0) some

-- sums and differences
pub ring_add-below : (q N : ℕ) (a b : List ℕ) → 0 < q → All (λ x. x < q) (ring_add q N a b)
unfolding ring_add
ring_add-below q N a b some = reduced_below q N (λ k. at a k +ℤ at b k) some

pub ring_sub-below : (q N : ℕ) (a b : List ℕ) → 0 < q → All (λ x. x < q) (ring_sub q N a b)
unfolding ring_sub
ring_sub-below q N a b some = reduced_below q N (λ k. at a k -ℤ at b k) some

pub ring_total-below : (q N count : ℕ) (a : ℕ → List ℕ) → 0 < q → All (λ x. x < q) (ring_total q N count a)
unfolding ring_total
ring_total-below q N count a some = reduced_below q N (λ k. total count (λ i. at (a i) k)) some

-- products and multiples
pub ring_mul-below : (q N : ℕ) (a b : List ℕ) → 0 < q → All (λ x. x < q) (ring_mul q N a b)
unfolding ring_mul
ring_mul-below q N a b some = reduced_below q N (product_at N (at a) (at b)) some

pub ring_scale-below : (q N : ℕ) (z : ℤ) (a : List ℕ) → 0 < q → All (λ x. x < q) (ring_scale q N z a)
unfolding ring_scale
ring_scale-below q N z a some = reduced_below q N (λ k. z *ℤ at a k) some

-- products with a power of x, and automorphisms
pub ring_shift-below : (q N s : ℕ) (a : List ℕ) → 0 < q → All (λ x. x < q) (ring_shift q N s a)
unfolding ring_shift
ring_shift-below q N s a some = reduced_below q N (shift_at N s (at a)) some

pub tau-below : (q N g : ℕ) (a : List ℕ) → 0 < q → All (λ x. x < q) (tau q N g a)
unfolding tau
tau-below q N g a some = reduced_below q N (tau_at N g (at a)) some

-- For `using`: each operation gives residues.
pub ruleset ring_residues = (ring_zero-below, ring_one-below, ring_add-below, ring_sub-below, ring_total-below, ring_mul-below, ring_scale-below, ring_shift-below, tau-below)

-- ---- zeros

-- N zeros are residues,
pub zeros_below : (q n : ℕ) → 0 < q → All (λ x. x < q) (replicate n 0)
zeros_below q n some = All-replicate (λ x. x < q) n 0 some

-- with coefficients 0,
pub at-zeros : (N k : ℕ) → k < N → at (replicate N 0) k ≡ pos 0
unfolding at
at-zeros N k h = ap (λ (x : ℕ). pos x) (get_or-replicate {A = ℕ} N k 0 0 h)

pub zeros_follow : (q N : ℕ) → Follows q N (replicate N 0) (λ k. pos 0)
zeros_follow q N = record { place = λ k h. congruent_equal (at-zeros N k h) }

pub stands_zeros : (q N : ℕ) → 0 < q → Stands q N (replicate N 0) (λ k. pos 0)
stands_zeros q N some = record { some = some; size = length-replicate {A = ℕ} N 0; below = zeros_below q N some; follows = zeros_follow q N }

-- and so they are 0.
pub zeros_ring : (q N : ℕ) → 0 < q → replicate N 0 ≡ ring_zero q N
zeros_ring q N some = stands_same (stands_zeros q N some) (stands_zero some) (λ k h. refl)

-- What is added to zeros is what it was,
pub added_to_zeros : (q N : ℕ) (a : List ℕ) → 0 < q → length a ≡ N → All (λ x. x < q) a → ring_add q N (replicate N 0) a ≡ a
added_to_zeros q N a some size below =
    stands_same (add_of some (zeros_follow q N) (follows_at q N a)) (stands_at some size below) (λ k h. omega (arith, ints))

-- and so is that to which zeros are added.
pub zeros_added : (q N : ℕ) (a : List ℕ) → 0 < q → length a ≡ N → All (λ x. x < q) a → ring_add q N a (replicate N 0) ≡ a
zeros_added q N a some size below = ring_add_comm q N a (replicate N 0) ∙ added_to_zeros q N a some size below

-- A product that is added to zeros
pub product_from_zeros : (q N : ℕ) (a b : List ℕ) → 0 < q → ring_add q N (replicate N 0) (ring_mul q N a b) ≡ ring_mul q N a b
product_from_zeros q N a b some = added_to_zeros q N (ring_mul q N a b) some (length-ring_mul q N a b) (ring_mul-below q N a b some)

-- ---- sums of many

-- of equal polynomials
pub ring_total-same : (q N count : ℕ) (a b : ℕ → List ℕ) → ((i : ℕ) → i < count → a i ≡ b i) → ring_total q N count a ≡ ring_total q N count b
unfolding ring_total
ring_total-same q N count a b same =
    reduced_same q N (λ k. total count (λ i. at (a i) k)) (λ k. total count (λ i. at (b i) k))
    (λ k h. total_same count (λ i. at (a i) k) (λ i. at (b i) k) (λ i g. ap (λ (x : List ℕ). at x k) (same i g)))

-- of one polynomial
pub ring_total-one : (q N : ℕ) (a : ℕ → List ℕ) → 0 < q → length (a 0) ≡ N → All (λ x. x < q) (a 0) → ring_total q N 1 a ≡ a 0
ring_total-one q N a some size below =
    stands_same (total_of some 1 a (λ i. at (a i)) (λ i h. follows_at q N (a i))) (stands_at some size below)
    (λ k h.
    let more = total_more 0 (λ i. at (a i) k) in
    let none = total_none (λ i. at (a i) k) in
    omega (arith, ints))

-- added to a: of no polynomials, and of one more
pub ring_add_total-none : (q N : ℕ) (a : List ℕ) (f : ℕ → List ℕ) → 0 < q → length a ≡ N → All (λ x. x < q) a → ring_add q N a (ring_total q N 0 f) ≡ a
ring_add_total-none q N a f some size below = ap (ring_add q N a) (ring_total_none q N f) ∙ ring_add_zero q N some a size below

pub ring_add_total-more : (q N count : ℕ) (a : List ℕ) (f : ℕ → List ℕ) → 0 < q
    → ring_add q N (ring_add q N a (ring_total q N count f)) (f count) ≡ ring_add q N a (ring_total q N (count + 1) f)
ring_add_total-more q N count a f some =
    ring_add_assoc q N some a (ring_total q N count f) (f count) ∙ ap (ring_add q N a) (sym (ring_total_more q N some count f))
