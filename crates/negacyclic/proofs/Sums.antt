-- Laws of sums of whole numbers over a range of places.
use Rattle.std.proofs.Common.{◌≡◌, ◌≢◌, ℕ, zero, suc, ◌+◌, ◌<◌, ℤ, pos, ◌+ℤ◌, ◌-ℤ◌, ◌*ℤ◌, neg_ℤ, refl, sym, ◌∙◌, ap, arith, add-one, add-suc, add-zero, inl, inr}
use Rattle.std.proofs.lemmas.Int.{ints}
use Rattle.std.proofs.lemmas.Bool.{cases_eq}
use Rattle.negacyclic.specs.Sums.{total}
use Rattle.negacyclic.proofs.Integers.{mul-add_ℤ, mul-zero_ℤ, mul_comm_ℤ}

-- no terms
pub total_none : (f : ℕ → ℤ) → total 0 f ≡ pos 0
unfolding total
total_none f = refl

-- one more term
pub total_more : (n : ℕ) (f : ℕ → ℤ) → total (n + 1) f ≡ total n f +ℤ f n
unfolding total
total_more n f = rw add-one refl

-- equal terms
pub total_same : (n : ℕ) (f g : ℕ → ℤ) → ((i : ℕ) → i < n → f i ≡ g i) → total n f ≡ total n g
unfolding total
total_same zero f g same = refl
total_same (suc n) f g same =
    let front : total n f ≡ total n g = total_same n f g (λ i h. same i (omega arith)) in
    let last : f n ≡ g n = same n (omega arith) in cc

-- terms that are all 0
pub total_zero : (n : ℕ) (f : ℕ → ℤ) → ((i : ℕ) → i < n → f i ≡ pos 0) → total n f ≡ pos 0
unfolding total
total_zero zero f all = refl
total_zero (suc n) f all =
    let front : total n f ≡ pos 0 = total_zero n f (λ i h. all i (omega arith)) in
    let last : f n ≡ pos 0 = all n (omega arith) in omega (arith, ints)

-- terms that are all 0 but the one at j
pub total_one : (n : ℕ) (f : ℕ → ℤ) (j : ℕ) → j < n → ((i : ℕ) → i < n → i ≢ j → f i ≡ pos 0) → total n f ≡ f j
unfolding total
total_one zero f j h others = absurd (omega arith)
total_one (suc n) f j h others =
    elim (cases_eq j n) [
      | inl e ↦
          let front : total n f ≡ pos 0 = total_zero n f (λ i below. others i (omega arith) (omega arith)) in
          let last : f j ≡ f n = ap f e in omega (arith, ints)
      | inr ne ↦
          let front : total n f ≡ f j = total_one n f j (omega arith) (λ i below other. others i (omega arith) other) in
          let last : f n ≡ pos 0 = others n (omega arith) (λ e. ne (sym e)) in omega (arith, ints)
    ]

-- the sum of sums
pub total_add : (n : ℕ) (f g : ℕ → ℤ) → total n (λ i. f i +ℤ g i) ≡ total n f +ℤ total n g
unfolding total
total_add zero f g = refl
total_add (suc n) f g = let front = total_add n f g in omega (arith, ints)

-- the sum of the terms with a minus sign
pub total_neg : (n : ℕ) (f : ℕ → ℤ) → total n (λ i. neg_ℤ (f i)) ≡ neg_ℤ (total n f)
unfolding total
total_neg zero f = refl
total_neg (suc n) f = let front = total_neg n f in omega (arith, ints)

-- the sum of differences
pub total_sub : (n : ℕ) (f g : ℕ → ℤ) → total n (λ i. f i -ℤ g i) ≡ total n f -ℤ total n g
unfolding total
total_sub zero f g = refl
total_sub (suc n) f g = let front = total_sub n f g in omega (arith, ints)

-- a factor on the left of each term
pub total_mul : (n : ℕ) (z : ℤ) (f : ℕ → ℤ) → total n (λ i. z *ℤ f i) ≡ z *ℤ total n f
unfolding total
total_mul zero z f = sym (mul-zero_ℤ z)
total_mul (suc n) z f =
    let front = total_mul n z f in
    let last = mul-add_ℤ z (total n f) (f n) in omega (arith, ints)

-- a factor on the right of each term
pub total_mul_right : (n : ℕ) (f : ℕ → ℤ) (z : ℤ) → total n (λ i. f i *ℤ z) ≡ total n f *ℤ z
total_mul_right n f z =
    total_same n (λ i. f i *ℤ z) (λ i. z *ℤ f i) (λ i h. mul_comm_ℤ (f i) z) ∙ total_mul n z f ∙ mul_comm_ℤ z (total n f)

-- the order of two sums is free
pub total_swap : (m n : ℕ) (f : ℕ → ℕ → ℤ) → total m (λ i. total n (λ j. f i j)) ≡ total n (λ j. total m (λ i. f i j))
unfolding total
total_swap zero n f = sym (total_zero n (λ j. pos 0) (λ j h. refl))
total_swap (suc m) n f =
    let front = total_swap m n f in
    let last = total_add n (λ j. total m (λ i. f i j)) (λ j. f m j) in omega (arith, ints)

-- a sum in two parts
pub total_split : (m n : ℕ) (f : ℕ → ℤ) → total (m + n) f ≡ total m f +ℤ total n (λ i. f (m + i))
unfolding total
total_split m zero f = rw add-zero (omega (arith, ints))
total_split m (suc n) f = rw add-suc (let front = total_split m n f in omega (arith, ints))
