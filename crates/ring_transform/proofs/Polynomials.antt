-- Laws of the values of polynomials, over the whole numbers and modulo p.
use Rattle.std.proofs.Common.{◌≡◌, ℕ, ◌+◌, ◌*◌, ◌^◌, ◌<◌, ℤ, pos, ◌+ℤ◌, ◌-ℤ◌, ◌*ℤ◌, ◌∙◌, ap, arith}
use Rattle.std.proofs.lemmas.Int.{ints}
use Rattle.std.proofs.lemmas.Nat.{pow-add}
use Rattle.std.proofs.Math.Nat.{pow-zero, pow-suc, one-mul}
use Rattle.negacyclic.specs.Sums.{total}
use Rattle.negacyclic.proofs.Integers.{ring, mul-left_comm_ℤ, mul-one_ℤ}
use Rattle.negacyclic.proofs.Sums.{total_none, total_more, total_same, total_zero, total_add, total_sub, total_mul, total_split}
use Rattle.negacyclic.proofs.Congruence.{Congruent, congruent_refl, congruent_mul, congruent_total}
use Rattle.ring_transform.specs.Values.{value_at}

-- the first power
pub first_power : (z : ℕ) → z ^ 1 ≡ z
first_power z = pow-suc z 0 ∙ ap (λ (n : ℕ). n * z) (pow-zero z) ∙ one-mul z

-- equal coefficients
pub value_at-same : (n : ℕ) (f g : ℕ → ℤ) (z : ℕ) → ((i : ℕ) → i < n → f i ≡ g i) → value_at n f z ≡ value_at n g z
unfolding value_at
value_at-same n f g z same =
    total_same n (λ i. f i *ℤ pos (z ^ i)) (λ i. g i *ℤ pos (z ^ i)) (λ i h. ap (λ (y : ℤ). y *ℤ pos (z ^ i)) (same i h))

-- congruent ones
pub value_at-congruent : {p : ℕ} (n : ℕ) (f g : ℕ → ℤ) (z : ℕ) → ((i : ℕ) → i < n → Congruent p (f i) (g i)) → Congruent p (value_at n f z) (value_at n g z)
unfolding value_at
value_at-congruent n f g z near =
    congruent_total n (λ i. f i *ℤ pos (z ^ i)) (λ i. g i *ℤ pos (z ^ i)) (λ i h. congruent_mul (near i h) (congruent_refl (pos (z ^ i))))

-- a constant
pub value_at-one : (f : ℕ → ℤ) (z : ℕ) → value_at 1 f z ≡ f 0
unfolding value_at
value_at-one f z =
    let term : f 0 *ℤ pos (z ^ 0) ≡ f 0 = ap (λ (n : ℕ). f 0 *ℤ pos n) (pow-zero z) ∙ mul-one_ℤ (f 0) in
    let more = total_more 0 (λ i. f i *ℤ pos (z ^ i)) in
    let none = total_none (λ i. f i *ℤ pos (z ^ i)) in omega (arith, ints)

-- a multiple
pub value_at-scaled : (n : ℕ) (f : ℕ → ℤ) (w : ℤ) (z : ℕ) → value_at n (λ i. w *ℤ f i) z ≡ w *ℤ value_at n f z
unfolding value_at
value_at-scaled n f w z =
    total_same n (λ i. w *ℤ f i *ℤ pos (z ^ i)) (λ i. w *ℤ (f i *ℤ pos (z ^ i))) (λ i h. simp ring)
    ∙ total_mul n w (λ i. f i *ℤ pos (z ^ i))

-- a sum
pub value_at-add : (n : ℕ) (f g : ℕ → ℤ) (z : ℕ) → value_at n (λ i. f i +ℤ g i) z ≡ value_at n f z +ℤ value_at n g z
unfolding value_at
value_at-add n f g z =
    total_same n (λ i. (f i +ℤ g i) *ℤ pos (z ^ i)) (λ i. f i *ℤ pos (z ^ i) +ℤ g i *ℤ pos (z ^ i)) (λ i h. simp ring)
    ∙ total_add n (λ i. f i *ℤ pos (z ^ i)) (λ i. g i *ℤ pos (z ^ i))

-- a difference
pub value_at-sub : (n : ℕ) (f g : ℕ → ℤ) (z : ℕ) → value_at n (λ i. f i -ℤ g i) z ≡ value_at n f z -ℤ value_at n g z
unfolding value_at
value_at-sub n f g z =
    total_same n (λ i. (f i -ℤ g i) *ℤ pos (z ^ i)) (λ i. f i *ℤ pos (z ^ i) -ℤ g i *ℤ pos (z ^ i)) (λ i h. simp ring)
    ∙ total_sub n (λ i. f i *ℤ pos (z ^ i)) (λ i. g i *ℤ pos (z ^ i))

-- the sum with a multiple
pub value_at-combined : (n : ℕ) (f g : ℕ → ℤ) (w : ℤ) (z : ℕ) → value_at n (λ i. f i +ℤ w *ℤ g i) z ≡ value_at n f z +ℤ w *ℤ value_at n g z
value_at-combined n f g w z =
    value_at-add n f (λ i. w *ℤ g i) z ∙ ap (λ (y : ℤ). value_at n f z +ℤ y) (value_at-scaled n g w z)

-- the lower and the higher coefficients
pub value_at-split : (h k : ℕ) (f : ℕ → ℤ) (z : ℕ) → value_at (h + k) f z ≡ value_at h f z +ℤ pos (z ^ h) *ℤ value_at k (λ i. f (h + i)) z
unfolding value_at
value_at-split h k f z =
    total_split h k (λ i. f i *ℤ pos (z ^ i))
    ∙ ap (λ (y : ℤ). total h (λ i. f i *ℤ pos (z ^ i)) +ℤ y)
    (total_same k (λ i. f (h + i) *ℤ pos (z ^ (h + i))) (λ i. pos (z ^ h) *ℤ (f (h + i) *ℤ pos (z ^ i)))
    (λ i lt. ap (λ (n : ℕ). f (h + i) *ℤ pos n) (pow-add z h i) ∙ mul-left_comm_ℤ (f (h + i)) (pos (z ^ h)) (pos (z ^ i)))
    ∙ total_mul k (pos (z ^ h)) (λ i. f (h + i) *ℤ pos (z ^ i)))

-- all coefficients 0
pub value_at-zero : (n : ℕ) (z : ℕ) → value_at n (λ i. pos 0) z ≡ pos 0
unfolding value_at
value_at-zero n z = total_zero n (λ i. pos 0 *ℤ pos (z ^ i)) (λ i h. simp ring)
