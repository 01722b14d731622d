-- Laws of the automorphism that takes x to x^g, for an odd g.
use Rattle.std.proofs.Common.{◌≡◌, ℕ, ◌+◌, ◌*◌, ◌%◌, ◌<◌, ℤ, ◌+ℤ◌, ◌-ℤ◌, ◌*ℤ◌, neg_ℤ, List, refl, sym, ◌∙◌, mul_assoc, mul-add}
use Rattle.negacyclic.specs.Sums.{total}
use Rattle.negacyclic.specs.Ring.{product_at, shift_at, tau_at, at, ring_add, ring_sub, ring_mul, ring_scale, ring_shift, tau}
use Rattle.negacyclic.proofs.Gather.{Turns-turn, Turns-after, Turns-odd, moved, moved-add, moved-sub, moved-scale, moved-neg, moved-total, moved-equal, moved-same, moved-moved}
use Rattle.negacyclic.proofs.Product.{moved-product_is}
use Rattle.negacyclic.proofs.Stands.{Follows, follows_at, stands_same, add_of, sub_of, mul_of, scale_of, shift_of, tau_of}

-- ---- over the whole numbers

-- a(x^g) is a sum of powers
pub tau_at-moved : (N g : ℕ) (a : ℕ → ℤ) (k : ℕ) → tau_at N g a k ≡ moved N (λ i. g * i) a k
unfolding tau_at moved
tau_at-moved N g a k = refl

-- of a sum
pub tau_at-add : (N g : ℕ) (a b : ℕ → ℤ) (k : ℕ) → tau_at N g (λ i. a i +ℤ b i) k ≡ tau_at N g a k +ℤ tau_at N g b k
unfolding tau_at moved
tau_at-add N g a b k = moved-add N (λ i. g * i) a b k

-- of a difference
pub tau_at-sub : (N g : ℕ) (a b : ℕ → ℤ) (k : ℕ) → tau_at N g (λ i. a i -ℤ b i) k ≡ tau_at N g a k -ℤ tau_at N g b k
unfolding tau_at moved
tau_at-sub N g a b k = moved-sub N (λ i. g * i) a b k

-- of a multiple
pub tau_at-scale : (N g : ℕ) (a : ℕ → ℤ) (z : ℤ) (k : ℕ) → tau_at N g (λ i. z *ℤ a i) k ≡ z *ℤ tau_at N g a k
unfolding tau_at moved
tau_at-scale N g a z k = moved-scale N (λ i. g * i) a z k

-- of the opposite
pub tau_at-neg : (N g : ℕ) (a : ℕ → ℤ) (k : ℕ) → tau_at N g (λ i. neg_ℤ (a i)) k ≡ neg_ℤ (tau_at N g a k)
unfolding tau_at moved
tau_at-neg N g a k = moved-neg N (λ i. g * i) a k

-- of a sum of many
pub tau_at-total : (N g count : ℕ) (a : ℕ → ℕ → ℤ) (k : ℕ)
    → tau_at N g (λ i. total count (λ c. a c i)) k ≡ total count (λ c. tau_at N g (a c) k)
unfolding tau_at moved
tau_at-total N g count a k = moved-total N (λ i. g * i) count a k

-- of equal coefficients
pub tau_at-equal : (N g : ℕ) (a b : ℕ → ℤ) (k : ℕ) → ((i : ℕ) → i < N → a i ≡ b i) → tau_at N g a k ≡ tau_at N g b k
unfolding tau_at moved
tau_at-equal N g a b k same = moved-equal N (λ i. g * i) a b k same

-- of a product
pub tau_at-product_at : (N g : ℕ) (a b : ℕ → ℤ) (k : ℕ) → g % 2 ≡ 1 → k < N
    → tau_at N g (product_at N a b) k ≡ product_at N (tau_at N g a) (tau_at N g b) k
unfolding tau_at moved
tau_at-product_at N g a b k odd h =
    moved-product_is N (λ i. g * i) (λ i. g * i) (λ j. g * j) a b k h (Turns-odd (Turns-turn N k h) g odd) (λ i j. mul-add g i j)

-- one after the other
pub tau_at-tau_at : (N g e : ℕ) (a : ℕ → ℤ) (k : ℕ) → g % 2 ≡ 1 → k < N → tau_at N g (tau_at N e a) k ≡ tau_at N (g * e) a k
unfolding tau_at moved
tau_at-tau_at N g e a k odd h =
    moved-moved N (λ i. g * i) (λ i. e * i) a k (Turns-odd (Turns-turn N k h) g odd)
    ∙ moved-same N (λ i. g * (e * i)) (λ i. g * e * i) a k (λ i f. sym (mul_assoc g e i))

-- of a product with a power of x
pub tau_at-shift_at : (N g s : ℕ) (a : ℕ → ℤ) (k : ℕ) → g % 2 ≡ 1 → k < N
    → tau_at N g (shift_at N s a) k ≡ shift_at N (g * s) (tau_at N g a) k
unfolding tau_at shift_at moved
tau_at-shift_at N g s a k odd h =
    moved-moved N (λ i. g * i) (λ i. s + i) a k (Turns-odd (Turns-turn N k h) g odd)
    ∙ moved-same N (λ i. g * (s + i)) (λ i. g * s + g * i) a k (λ i f. mul-add g s i)
    ∙ sym (moved-moved N (λ i. g * s + i) (λ i. g * i) a k (Turns-after (Turns-turn N k h) (g * s)))

-- ---- on polynomials

module _ (q N : ℕ) (some : 0 < q) (g : ℕ) where
  own : (a : List ℕ) → Follows q N a (at a)
  own a = follows_at q N a

  -- of a sum
  pub tau_add : (a b : List ℕ) → tau q N g (ring_add q N a b) ≡ ring_add q N (tau q N g a) (tau q N g b)
  tau_add a b =
      stands_same (tau_of some g (add_of some (own a) (own b)).follows) (add_of some (tau_of some g (own a)).follows (tau_of some g (own b)).follows)
      (λ k h. tau_at-add N g (at a) (at b) k)

  -- of a difference
  pub tau_sub : (a b : List ℕ) → tau q N g (ring_sub q N a b) ≡ ring_sub q N (tau q N g a) (tau q N g b)
  tau_sub a b =
      stands_same (tau_of some g (sub_of some (own a) (own b)).follows) (sub_of some (tau_of some g (own a)).follows (tau_of some g (own b)).follows)
      (λ k h. tau_at-sub N g (at a) (at b) k)

  -- of a multiple
  pub tau_scale : (z : ℤ) (a : List ℕ) → tau q N g (ring_scale q N z a) ≡ ring_scale q N z (tau q N g a)
  tau_scale z a =
      stands_same (tau_of some g (scale_of some z (own a)).follows) (scale_of some z (tau_of some g (own a)).follows)
      (λ k h. tau_at-scale N g (at a) z k)

  -- of a product
  pub tau_mul : g % 2 ≡ 1 → (a b : List ℕ) → tau q N g (ring_mul q N a b) ≡ ring_mul q N (tau q N g a) (tau q N g b)
  tau_mul odd a b =
      stands_same (tau_of some g (mul_of some (own a) (own b)).follows) (mul_of some (tau_of some g (own a)).follows (tau_of some g (own b)).follows)
      (λ k h. tau_at-product_at N g (at a) (at b) k odd h)

  -- of another automorphism
  pub tau_tau : g % 2 ≡ 1 → (e : ℕ) (a : List ℕ) → tau q N g (tau q N e a) ≡ tau q N (g * e) a
  tau_tau odd e a =
      stands_same (tau_of some g (tau_of some e (own a)).follows) (tau_of some (g * e) (own a)) (λ k h. tau_at-tau_at N g e (at a) k odd h)

  -- of a product with a power of x
  pub tau_shift : g % 2 ≡ 1 → (s : ℕ) (a : List ℕ) → tau q N g (ring_shift q N s a) ≡ ring_shift q N (g * s) (tau q N g a)
  tau_shift odd s a =
      stands_same (tau_of some g (shift_of some s (own a)).follows) (shift_of some (g * s) (tau_of some g (own a)).follows)
      (λ k h. tau_at-shift_at N g s (at a) k odd h)
