-- Laws of the product with a power of x.
use Rattle.std.proofs.Common.{◌≡◌, ℕ, ◌+◌, ◌*◌, ◌<◌, ℤ, ◌+ℤ◌, ◌-ℤ◌, ◌*ℤ◌, neg_ℤ, List, length, All, refl, sym, ◌∙◌, ap, arith, add_assoc}
use Rattle.std.proofs.lemmas.Int.{ints}
use Rattle.negacyclic.specs.Sums.{total}
use Rattle.negacyclic.specs.Ring.{turn, product_at, shift_at, at, ring_zero, ring_add, ring_sub, ring_mul, ring_shift}
use Rattle.negacyclic.proofs.Integers.{one-mul_ℤ, zero-mul_ℤ, neg-mul_ℤ}
use Rattle.negacyclic.proofs.Sums.{total_same, total_one, total_neg}
use Rattle.negacyclic.proofs.Turn.{turn_here, turn_elsewhere, turn_period, turn_flip}
use Rattle.negacyclic.proofs.Gather.{Turns-turn, Turns-after, moved, moved-add, moved-sub, moved-scale, moved-neg, moved-total, moved-equal, moved-same, moved-moved}
use Rattle.negacyclic.proofs.Product.{moved-product, product_at-moved_left}
use Rattle.negacyclic.proofs.Stands.{Follows, follows_at, stands_at, stands_same, stands_zero, add_of, sub_of, mul_of, shift_of}

-- ---- over the whole numbers

-- a product with a power of x is a sum of powers
pub shift_at-moved : (N s : ℕ) (a : ℕ → ℤ) (k : ℕ) → shift_at N s a k ≡ moved N (λ i. s + i) a k
unfolding shift_at moved
shift_at-moved N s a k = refl

-- of a sum
pub shift_at-add : (N s : ℕ) (a b : ℕ → ℤ) (k : ℕ) → shift_at N s (λ i. a i +ℤ b i) k ≡ shift_at N s a k +ℤ shift_at N s b k
unfolding shift_at moved
shift_at-add N s a b k = moved-add N (λ i. s + i) a b k

-- of a difference
pub shift_at-sub : (N s : ℕ) (a b : ℕ → ℤ) (k : ℕ) → shift_at N s (λ i. a i -ℤ b i) k ≡ shift_at N s a k -ℤ shift_at N s b k
unfolding shift_at moved
shift_at-sub N s a b k = moved-sub N (λ i. s + i) a b k

-- of a multiple
pub shift_at-scale : (N s : ℕ) (a : ℕ → ℤ) (z : ℤ) (k : ℕ) → shift_at N s (λ i. z *ℤ a i) k ≡ z *ℤ shift_at N s a k
unfolding shift_at moved
shift_at-scale N s a z k = moved-scale N (λ i. s + i) a z k

-- of the opposite
pub shift_at-neg : (N s : ℕ) (a : ℕ → ℤ) (k : ℕ) → shift_at N s (λ i. neg_ℤ (a i)) k ≡ neg_ℤ (shift_at N s a k)
unfolding shift_at moved
shift_at-neg N s a k = moved-neg N (λ i. s + i) a k

-- of a sum of many
pub shift_at-total : (N s count : ℕ) (a : ℕ → ℕ → ℤ) (k : ℕ)
    → shift_at N s (λ i. total count (λ c. a c i)) k ≡ total count (λ c. shift_at N s (a c) k)
unfolding shift_at moved
shift_at-total N s count a k = moved-total N (λ i. s + i) count a k

-- of equal coefficients
pub shift_at-equal : (N s : ℕ) (a b : ℕ → ℤ) (k : ℕ) → ((i : ℕ) → i < N → a i ≡ b i) → shift_at N s a k ≡ shift_at N s b k
unfolding shift_at moved
shift_at-equal N s a b k same = moved-equal N (λ i. s + i) a b k same

-- powers of x multiply by adding their exponents
pub shift_at-shift_at : (N s t : ℕ) (a : ℕ → ℤ) (k : ℕ) → k < N → shift_at N s (shift_at N t a) k ≡ shift_at N (s + t) a k
unfolding shift_at moved
shift_at-shift_at N s t a k h =
    moved-moved N (λ i. s + i) (λ i. t + i) a k (Turns-after (Turns-turn N k h) s)
    ∙ moved-same N (λ i. s + (t + i)) (λ i. s + t + i) a k (λ i g. sym (add_assoc s t i))

-- a power of x goes into a factor
pub shift_at-product_at : (N s : ℕ) (a b : ℕ → ℤ) (k : ℕ) → k < N → shift_at N s (product_at N a b) k ≡ product_at N (shift_at N s a) b k
unfolding shift_at moved
shift_at-product_at N s a b k h =
    moved-product N (λ i. s + i) a b k (Turns-after (Turns-turn N k h) s)
    ∙ total_same N (λ i. total N (λ j. turn N k (s + (i + j)) *ℤ (a i *ℤ b j))) (λ i. total N (λ j. turn N k (s + i + j) *ℤ (a i *ℤ b j)))
    (λ i g.
    total_same N (λ j. turn N k (s + (i + j)) *ℤ (a i *ℤ b j)) (λ j. turn N k (s + i + j) *ℤ (a i *ℤ b j))
    (λ j f. ap (λ (t : ℕ). turn N k t *ℤ (a i *ℤ b j)) (sym (add_assoc s i j))))
    ∙ sym (product_at-moved_left N (λ i. s + i) a b k h)

-- x^0 = 1
pub shift_at-zero : (N : ℕ) (a : ℕ → ℤ) (k : ℕ) → k < N → shift_at N 0 a k ≡ a k
unfolding shift_at
shift_at-zero N a k h =
    total_one N (λ i. turn N k (0 + i) *ℤ a i) k h
    (λ i below ne. ap (λ (z : ℤ). z *ℤ a i) (turn_elsewhere N k (0 + i) (omega arith) (λ e. ne (omega arith)) (omega arith)) ∙ zero-mul_ℤ (a i))
    ∙ ap (λ (z : ℤ). z *ℤ a k) (turn_here N k (0 + k) (omega arith) (omega arith))
    ∙ one-mul_ℤ (a k)

-- x^N = -1
pub shift_at-half : (N s : ℕ) (a : ℕ → ℤ) (k : ℕ) → k < N → shift_at N (s + N) a k ≡ neg_ℤ (shift_at N s a k)
unfolding shift_at
shift_at-half N s a k h =
    total_same N (λ i. turn N k (s + N + i) *ℤ a i) (λ i. neg_ℤ (turn N k (s + i) *ℤ a i))
    (λ i g.
    let e : s + N + i ≡ s + i + N = omega arith in
    ap (λ (z : ℤ). z *ℤ a i) (ap (turn N k) e ∙ turn_flip N k (s + i) h) ∙ neg-mul_ℤ (turn N k (s + i)) (a i))
    ∙ total_neg N (λ i. turn N k (s + i) *ℤ a i)

-- x^(2N) = 1
pub shift_at-round : (N s : ℕ) (a : ℕ → ℤ) (k : ℕ) → k < N → shift_at N (s + 2 * N) a k ≡ shift_at N s a k
unfolding shift_at moved
shift_at-round N s a k h =
    total_same N (λ i. turn N k (s + 2 * N + i) *ℤ a i) (λ i. turn N k (s + i) *ℤ a i)
    (λ i g.
    let e : s + 2 * N + i ≡ s + i + 2 * N = omega arith in
    ap (λ (z : ℤ). z *ℤ a i) (ap (turn N k) e ∙ turn_period N k (s + i)))

-- ---- on polynomials

module _ (q N : ℕ) (some : 0 < q) where
  own : (a : List ℕ) → Follows q N a (at a)
  own a = follows_at q N a

  -- powers of x multiply by adding their exponents
  pub ring_shift_shift : (s t : ℕ) (a : List ℕ) → ring_shift q N s (ring_shift q N t a) ≡ ring_shift q N (s + t) a
  ring_shift_shift s t a =
      stands_same (shift_of some s (shift_of some t (own a)).follows) (shift_of some (s + t) (own a))
      (λ k h. shift_at-shift_at N s t (at a) k h)

  -- a power of x goes into a factor
  pub ring_shift_mul : (s : ℕ) (a b : List ℕ) → ring_shift q N s (ring_mul q N a b) ≡ ring_mul q N (ring_shift q N s a) b
  ring_shift_mul s a b =
      stands_same (shift_of some s (mul_of some (own a) (own b)).follows) (mul_of some (shift_of some s (own a)).follows (own b))
      (λ k h. shift_at-product_at N s (at a) (at b) k h)

  -- of a sum
  pub ring_shift_add : (s : ℕ) (a b : List ℕ) → ring_shift q N s (ring_add q N a b) ≡ ring_add q N (ring_shift q N s a) (ring_shift q N s b)
  ring_shift_add s a b =
      stands_same (shift_of some s (add_of some (own a) (own b)).follows) (add_of some (shift_of some s (own a)).follows (shift_of some s (own b)).follows)
      (λ k h. shift_at-add N s (at a) (at b) k)

  -- of a difference
  pub ring_shift_sub : (s : ℕ) (a b : List ℕ) → ring_shift q N s (ring_sub q N a b) ≡ ring_sub q N (ring_shift q N s a) (ring_shift q N s b)
  ring_shift_sub s a b =
      stands_same (shift_of some s (sub_of some (own a) (own b)).follows) (sub_of some (shift_of some s (own a)).follows (shift_of some s (own b)).follows)
      (λ k h. shift_at-sub N s (at a) (at b) k)

  -- x^0 = 1
  pub ring_shift_zero : (a : List ℕ) → length a ≡ N → All (λ x. x < q) a → ring_shift q N 0 a ≡ a
  ring_shift_zero a size below =
      stands_same (shift_of some 0 (own a)) (stands_at some size below) (λ k h. shift_at-zero N (at a) k h)

  -- x^(2N) = 1
  pub ring_shift_round : (a : List ℕ) → length a ≡ N → All (λ x. x < q) a → ring_shift q N (2 * N) a ≡ a
  ring_shift_round a size below =
      stands_same (shift_of some (2 * N) (own a)) (stands_at some size below)
      (λ k h.
      let e : 2 * N ≡ 0 + 2 * N = omega arith in
      ap (λ (s : ℕ). shift_at N s (at a) k) e ∙ shift_at-round N 0 (at a) k h ∙ shift_at-zero N (at a) k h)

  -- x^N = -1
  pub ring_shift_half : (a : List ℕ) → ring_shift q N N a ≡ ring_sub q N (ring_zero q N) a
  ring_shift_half a =
      stands_same (shift_of some N (own a)) (sub_of some (stands_zero some).follows (own a))
      (λ k h.
      let e : N ≡ 0 + N = omega arith in
      let there : shift_at N N (at a) k ≡ shift_at N (0 + N) (at a) k = ap (λ (s : ℕ). shift_at N s (at a) k) e in
      let minus : shift_at N (0 + N) (at a) k ≡ neg_ℤ (shift_at N 0 (at a) k) = shift_at-half N 0 (at a) k h in
      let here : shift_at N 0 (at a) k ≡ at a k = shift_at-zero N (at a) k h in omega (arith, ints))
