-- The norm of a polynomial bounds what a product with it does to the absolute values of centred coefficients.
use Rattle.std.proofs.Common.{◌≡◌, ℕ, ◌+◌, ◌-◌, ◌*◌, ◌<◌, ◌≤◌, ℤ, ◌*ℤ◌, unsigned_abs, List, length, take, All, sum_by, ◌∙◌, ap, arith, le_trans, mul-le-mul_left, mul-le-mul_right, mul_comm, inl, inr}
use Rattle.std.proofs.lemmas.Int.{unsigned_abs-mul}
use Rattle.std.proofs.lemmas.Bool.{cases_lt}
use Rattle.std.proofs.lemmas.List.Sums.{sum_by-le, sum_by-take-le}
use Rattle.negacyclic.specs.Sums.{total}
use Rattle.negacyclic.specs.Residues.{cen, norm}
use Rattle.negacyclic.specs.Ring.{product_at, ring_mul}
use Rattle.negacyclic.proofs.Residues.{unsigned_abs-neg, cen_zero}
use Rattle.negacyclic.proofs.Turn.{product_term, product_term-plain, product_term-wrapped, product_at-terms}
use Rattle.negacyclic.proofs.Product.{product_at-comm}
use Rattle.negacyclic.proofs.Bounds.{centred, follows_centred, centred_below, centred-stands, all_from_centred, unsigned_abs-total}
use Rattle.negacyclic.proofs.Stands.{mul_of}

term_bound : (m : ℕ) (x y : ℤ) → unsigned_abs y ≤ m → unsigned_abs (x *ℤ y) ≤ m * unsigned_abs x
term_bound m x y h = rw (unsigned_abs-mul x y, mul_comm (unsigned_abs x) (unsigned_abs y)) (mul-le-mul_right (unsigned_abs x) h)

product_term_bound : (N : ℕ) (f g : ℕ → ℤ) (m k j : ℕ) → ((i : ℕ) → unsigned_abs (f i) ≤ m)
    → unsigned_abs (product_term N g f k j) ≤ m * unsigned_abs (g j)
product_term_bound N f g m k j bound =
    elim (cases_lt k j) [
      | inl wraps ↦
          rw (product_term-wrapped N g f k j wraps, unsigned_abs-neg (g j *ℤ f (N + k - j)))
          (term_bound m (g j) (f (N + k - j)) (bound (N + k - j)))
      | inr within ↦ rw (product_term-plain N g f k j within) (term_bound m (g j) (f (k - j)) (bound (k - j)))
    ]

-- Over the whole numbers a place of the product is at most a bound of the one factor times the norm of the other.
pub unsigned_abs-product_at : (q N m : ℕ) (f : ℕ → ℤ) (b : List ℕ) (k : ℕ) → k < N → ((i : ℕ) → unsigned_abs (f i) ≤ m)
    → unsigned_abs (product_at N f (centred q b) k) ≤ m * norm q b
unfolding norm centred
unsigned_abs-product_at q N m f b k h bound =
    let w : ℕ → ℕ = λ x. unsigned_abs (cen q x) in
    let terms : product_at N f (centred q b) k ≡ total N (product_term N (centred q b) f k) =
    product_at-comm N f (centred q b) k ∙ product_at-terms N (centred q b) f k h in
    let front : unsigned_abs (total N (product_term N (centred q b) f k)) ≤ m * sum_by w (take N b) =
    unsigned_abs-total w b (product_term N (centred q b) f k) m N (ap unsigned_abs (cen_zero q))
    (λ j g. product_term_bound N f (centred q b) m k j bound) in
    rw terms (le_trans front (mul-le-mul_left m (sum_by-take-le w b N)))

-- And so is each centred representative of the product modulo q.
pub centred-ring_mul : (q N m : ℕ) (a b : List ℕ) (k : ℕ) → 0 < q → k < N → All (λ x. unsigned_abs (cen q x) ≤ m) a
    → unsigned_abs (centred q (ring_mul q N a b) k) ≤ m * norm q b
centred-ring_mul q N m a b k some h all =
    le_trans (centred-stands (mul_of some (follows_centred q N a) (follows_centred q N b)) k h)
    (unsigned_abs-product_at q N m (centred q a) b k h (λ i. centred_below q m a i all))

-- and all of them
pub norm_bounds : (q N m : ℕ) (a b : List ℕ) → 0 < q → All (λ x. unsigned_abs (cen q x) ≤ m) a
    → All (λ x. unsigned_abs (cen q x) ≤ m * norm q b) (ring_mul q N a b)
norm_bounds q N m a b some all =
    all_from_centred q (m * norm q b) (ring_mul q N a b)
    (λ k lt.
    let size = (mul_of some (follows_centred q N a) (follows_centred q N b)).size in
    centred-ring_mul q N m a b k some (omega (arith, size)) all)

-- The norm of a list whose centred representatives m bounds.
pub norm-le : (q m : ℕ) (a : List ℕ) → All (λ x. unsigned_abs (cen q x) ≤ m) a → norm q a ≤ length a * m
unfolding norm
norm-le q m a all = sum_by-le (λ x. unsigned_abs (cen q x)) m a all
