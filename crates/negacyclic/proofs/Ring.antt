-- Laws of the operations on polynomials: sums, products and multiples.
use Rattle.std.proofs.Common.{◌≡◌, ℕ, ◌+◌, ◌<◌, ℤ, pos, ◌+ℤ◌, ◌*ℤ◌, List, length, All, sym, ◌∙◌, ap, arith}
use Rattle.std.proofs.lemmas.Int.{ints}
use Rattle.negacyclic.specs.Sums.{total}
use Rattle.negacyclic.specs.Ring.{product_at, at, ring_zero, ring_one, ring_add, ring_sub, ring_total, ring_mul, ring_scale}
use Rattle.negacyclic.proofs.Integers.{mul-add_ℤ, mul-assoc_ℤ}
use Rattle.negacyclic.proofs.Sums.{total_more, total_none}
use Rattle.negacyclic.proofs.Product.{product_at-comm, product_at-assoc, product_at-add, product_at-sub, product_at-scale_left, product_at-zero, product_at-one, product_at-total}
use Rattle.negacyclic.proofs.Stands.{Follows, follows_at, stands_at, stands_same, reduced_same, stands_zero, stands_one, add_of, sub_of, mul_of, scale_of, total_of}

-- ---- without a premise

-- the order of two summands is free
pub ring_add_comm : (q N : ℕ) (a b : List ℕ) → ring_add q N a b ≡ ring_add q N b a
unfolding ring_add
ring_add_comm q N a b = reduced_same q N (λ k. at a k +ℤ at b k) (λ k. at b k +ℤ at a k) (λ k h. omega (arith, ints))

-- and that of two factors
pub ring_mul_comm : (q N : ℕ) (a b : List ℕ) → ring_mul q N a b ≡ ring_mul q N b a
unfolding ring_mul
ring_mul_comm q N a b =
    reduced_same q N (product_at N (at a) (at b)) (product_at N (at b) (at a)) (λ k h. product_at-comm N (at a) (at b) k)

-- a sum of no polynomials
pub ring_total_none : (q N : ℕ) (a : ℕ → List ℕ) → ring_total q N 0 a ≡ ring_zero q N
unfolding ring_total ring_zero
ring_total_none q N a = reduced_same q N (λ k. total 0 (λ i. at (a i) k)) (λ k. pos 0) (λ k h. total_none (λ i. at (a i) k))

-- ---- for q above 0

module _ (q N : ℕ) (some : 0 < q) where
  own : (a : List ℕ) → Follows q N a (at a)
  own a = follows_at q N a

  -- the order of two additions is free
  pub ring_add_assoc : (a b c : List ℕ) → ring_add q N (ring_add q N a b) c ≡ ring_add q N a (ring_add q N b c)
  ring_add_assoc a b c =
      stands_same (add_of some (add_of some (own a) (own b)).follows (own c)) (add_of some (own a) (add_of some (own b) (own c)).follows)
      (λ k h. omega (arith, ints))

  -- 0 is neutral
  pub ring_add_zero : (a : List ℕ) → length a ≡ N → All (λ x. x < q) a → ring_add q N a (ring_zero q N) ≡ a
  ring_add_zero a size below =
      stands_same (add_of some (own a) (stands_zero some).follows) (stands_at some size below) (λ k h. omega (arith, ints))

  -- what is taken away and added again
  pub ring_add_sub : (a b : List ℕ) → length a ≡ N → All (λ x. x < q) a → ring_add q N (ring_sub q N a b) b ≡ a
  ring_add_sub a b size below =
      stands_same (add_of some (sub_of some (own a) (own b)).follows (own b)) (stands_at some size below) (λ k h. omega (arith, ints))

  -- the order of two products is free
  pub ring_mul_assoc : (a b c : List ℕ) → ring_mul q N (ring_mul q N a b) c ≡ ring_mul q N a (ring_mul q N b c)
  ring_mul_assoc a b c =
      stands_same (mul_of some (mul_of some (own a) (own b)).follows (own c)) (mul_of some (own a) (mul_of some (own b) (own c)).follows)
      (λ k h. product_at-assoc N (at a) (at b) (at c) k h)

  -- a product with a sum
  pub ring_mul_add : (a b c : List ℕ) → ring_mul q N a (ring_add q N b c) ≡ ring_add q N (ring_mul q N a b) (ring_mul q N a c)
  ring_mul_add a b c =
      stands_same (mul_of some (own a) (add_of some (own b) (own c)).follows)
      (add_of some (mul_of some (own a) (own b)).follows (mul_of some (own a) (own c)).follows)
      (λ k h. product_at-add N (at a) (at b) (at c) k)

  -- the product of a sum
  pub ring_add_mul : (a b c : List ℕ) → ring_mul q N (ring_add q N a b) c ≡ ring_add q N (ring_mul q N a c) (ring_mul q N b c)
  ring_add_mul a b c =
      ring_mul_comm q N (ring_add q N a b) c
      ∙ ring_mul_add c a b
      ∙ ap (λ (x : List ℕ). ring_add q N x (ring_mul q N c b)) (ring_mul_comm q N c a)
      ∙ ap (ring_add q N (ring_mul q N a c)) (ring_mul_comm q N c b)

  -- a product with a difference
  pub ring_mul_sub : (a b c : List ℕ) → ring_mul q N a (ring_sub q N b c) ≡ ring_sub q N (ring_mul q N a b) (ring_mul q N a c)
  ring_mul_sub a b c =
      stands_same (mul_of some (own a) (sub_of some (own b) (own c)).follows)
      (sub_of some (mul_of some (own a) (own b)).follows (mul_of some (own a) (own c)).follows)
      (λ k h. product_at-sub N (at a) (at b) (at c) k)

  -- the product of a difference
  pub ring_sub_mul : (a b c : List ℕ) → ring_mul q N (ring_sub q N a b) c ≡ ring_sub q N (ring_mul q N a c) (ring_mul q N b c)
  ring_sub_mul a b c =
      ring_mul_comm q N (ring_sub q N a b) c
      ∙ ring_mul_sub c a b
      ∙ ap (λ (x : List ℕ). ring_sub q N x (ring_mul q N c b)) (ring_mul_comm q N c a)
      ∙ ap (ring_sub q N (ring_mul q N a c)) (ring_mul_comm q N c b)

  -- a product with 0
  pub ring_mul_zero : (a : List ℕ) → ring_mul q N a (ring_zero q N) ≡ ring_zero q N
  ring_mul_zero a =
      stands_same (mul_of some (own a) (stands_zero some).follows) (stands_zero some) (λ k h. product_at-zero N (at a) k)

  -- 1 is neutral
  pub ring_one_mul : (a : List ℕ) → length a ≡ N → All (λ x. x < q) a → ring_mul q N (ring_one q N) a ≡ a
  ring_one_mul a size below =
      stands_same (mul_of some (stands_one some).follows (own a)) (stands_at some size below) (λ k h. product_at-one N (at a) k h)

  -- a multiple of a sum
  pub ring_scale_add : (z : ℤ) (a b : List ℕ) → ring_scale q N z (ring_add q N a b) ≡ ring_add q N (ring_scale q N z a) (ring_scale q N z b)
  ring_scale_add z a b =
      stands_same (scale_of some z (add_of some (own a) (own b)).follows)
      (add_of some (scale_of some z (own a)).follows (scale_of some z (own b)).follows)
      (λ k h. mul-add_ℤ z (at a k) (at b k))

  -- a multiple of a product
  pub ring_scale_mul : (z : ℤ) (a b : List ℕ) → ring_scale q N z (ring_mul q N a b) ≡ ring_mul q N (ring_scale q N z a) b
  ring_scale_mul z a b =
      stands_same (scale_of some z (mul_of some (own a) (own b)).follows) (mul_of some (scale_of some z (own a)).follows (own b))
      (λ k h. sym (product_at-scale_left N (at a) (at b) z k))

  -- a multiple of a multiple
  pub ring_scale_scale : (y z : ℤ) (a : List ℕ) → ring_scale q N y (ring_scale q N z a) ≡ ring_scale q N (y *ℤ z) a
  ring_scale_scale y z a =
      stands_same (scale_of some y (scale_of some z (own a)).follows) (scale_of some (y *ℤ z) (own a)) (λ k h. sym (mul-assoc_ℤ y z (at a k)))

  -- a product with a sum of many
  pub ring_mul_total : (a : List ℕ) (count : ℕ) (b : ℕ → List ℕ)
      → ring_mul q N a (ring_total q N count b) ≡ ring_total q N count (λ i. ring_mul q N a (b i))
  ring_mul_total a count b =
      stands_same (mul_of some (own a) (total_of some count b (λ i. at (b i)) (λ i h. own (b i))).follows)
      (total_of some count (λ i. ring_mul q N a (b i)) (λ i. product_at N (at a) (at (b i))) (λ i h. (mul_of some (own a) (own (b i))).follows))
      (λ k h. product_at-total N (at a) count (λ i. at (b i)) k)

  -- one polynomial more in a sum
  pub ring_total_more : (count : ℕ) (a : ℕ → List ℕ) → ring_total q N (count + 1) a ≡ ring_add q N (ring_total q N count a) (a count)
  ring_total_more count a =
      stands_same (total_of some (count + 1) a (λ i. at (a i)) (λ i h. own (a i)))
      (add_of some (total_of some count a (λ i. at (a i)) (λ i h. own (a i))).follows (own (a count)))
      (λ k h. total_more count (λ i. at (a i) k))
