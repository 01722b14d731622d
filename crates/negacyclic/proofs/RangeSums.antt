-- Sums of naturals over a range of places: bounds of sums of many are of this form.
use Rattle.std.proofs.Common.{◌≡◌, ℕ, zero, suc, ◌+◌, ◌*◌, ◌<◌, ◌≤◌, List, length, get_or, sum_by, refl, sym, ◌∙◌, ap, arith, le_refl, mul-add, inl, inr}
use Rattle.std.specs.List.{range_with_len}
use Rattle.std.proofs.lemmas.Bool.{cases_eq}
use Rattle.std.proofs.lemmas.List.Folds.{fold-map}
use Rattle.std.proofs.lemmas.List.FromFn.{fill_by_all}
use Rattle.std.proofs.lemmas.List.Sums.{sum_by_push}
use Rattle.negacyclic.proofs.Lists.{range-more}

-- of no places
pub range_sum-none : (f : ℕ → ℕ) → sum_by f (range_with_len 0 0) ≡ 0
range_sum-none f = refl

-- of one place more
pub range_sum-more : (n : ℕ) (f : ℕ → ℕ) → sum_by f (range_with_len 0 (n + 1)) ≡ sum_by f (range_with_len 0 n) + f n
range_sum-more n f = ap (sum_by f) (range-more 0 n n (omega arith)) ∙ sum_by_push f (range_with_len 0 n) n

-- the same, as a recursion has it
pub range_sum-suc : (n : ℕ) (f : ℕ → ℕ) → sum_by f (range_with_len 0 (suc n)) ≡ sum_by f (range_with_len 0 n) + f n
range_sum-suc n f =
    let next : suc n ≡ n + 1 = omega arith in ap (λ (m : ℕ). sum_by f (range_with_len 0 m)) next ∙ range_sum-more n f

-- of terms that are at most those of another
pub range_sum-le : (n : ℕ) (f g : ℕ → ℕ) → ((k : ℕ) → k < n → f k ≤ g k) → sum_by f (range_with_len 0 n) ≤ sum_by g (range_with_len 0 n)
range_sum-le zero f g each = le_refl 0
range_sum-le (suc n) f g each =
    let front : sum_by f (range_with_len 0 n) ≤ sum_by g (range_with_len 0 n) = range_sum-le n f g (λ k h. each k (omega arith)) in
    let last : f n ≤ g n = each n (omega arith) in omega (arith, range_sum-suc n f, range_sum-suc n g)

-- of equal terms
pub range_sum-same : (n : ℕ) (f g : ℕ → ℕ) → ((k : ℕ) → k < n → f k ≡ g k) → sum_by f (range_with_len 0 n) ≡ sum_by g (range_with_len 0 n)
range_sum-same zero f g each = refl
range_sum-same (suc n) f g each =
    let front : sum_by f (range_with_len 0 n) ≡ sum_by g (range_with_len 0 n) = range_sum-same n f g (λ k h. each k (omega arith)) in
    let last : f n ≡ g n = each n (omega arith) in omega (arith, range_sum-suc n f, range_sum-suc n g)

-- of sums
pub range_sum-add : (n : ℕ) (f g : ℕ → ℕ) → sum_by (λ k. f k + g k) (range_with_len 0 n) ≡ sum_by f (range_with_len 0 n) + sum_by g (range_with_len 0 n)
range_sum-add zero f g = refl
range_sum-add (suc n) f g = omega (arith, range_sum-add n f g, range_sum-suc n f, range_sum-suc n g, range_sum-suc n (λ k. f k + g k))

-- of multiples
pub range_sum-mul : (n m : ℕ) (f : ℕ → ℕ) → sum_by (λ k. m * f k) (range_with_len 0 n) ≡ m * sum_by f (range_with_len 0 n)
range_sum-mul zero m f = omega arith
range_sum-mul (suc n) m f =
    let whole : m * sum_by f (range_with_len 0 (suc n)) ≡ m * (sum_by f (range_with_len 0 n) + f n) = ap (λ (s : ℕ). m * s) (range_sum-suc n f) in
    range_sum-suc n (λ k. m * f k) ∙ ap (λ (s : ℕ). s + m * f n) (range_sum-mul n m f) ∙ sym (whole ∙ mul-add m (sum_by f (range_with_len 0 n)) (f n))

-- of terms that are all m
pub range_sum-constant : (n m : ℕ) → sum_by (λ k. m) (range_with_len 0 n) ≡ n * m
range_sum-constant zero m = omega arith
range_sum-constant (suc n) m = omega (arith, range_sum-constant n m, range_sum-suc n (λ k. m))

-- of terms that are at most m
pub range_sum-most : (n m : ℕ) (f : ℕ → ℕ) → ((k : ℕ) → k < n → f k ≤ m) → sum_by f (range_with_len 0 n) ≤ n * m
range_sum-most n m f each = omega (arith, range_sum-le n f (λ k. m) each, range_sum-constant n m)

-- of terms that are all 0
pub range_sum-zero : (n : ℕ) (f : ℕ → ℕ) → ((k : ℕ) → k < n → f k ≡ 0) → sum_by f (range_with_len 0 n) ≡ 0
range_sum-zero n f each = range_sum-same n f (λ k. 0) each ∙ range_sum-constant n 0 ∙ omega arith

-- the sum in two parts
pub range_sum-split : (m n : ℕ) (f : ℕ → ℕ) → sum_by f (range_with_len 0 (m + n)) ≡ sum_by f (range_with_len 0 m) + sum_by (λ k. f (m + k)) (range_with_len 0 n)
range_sum-split m zero f =
    let all : m + 0 ≡ m = omega arith in
    let here : sum_by f (range_with_len 0 (m + 0)) ≡ sum_by f (range_with_len 0 m) = ap (λ (k : ℕ). sum_by f (range_with_len 0 k)) all in omega arith
range_sum-split m (suc n) f =
    let next : m + suc n ≡ suc (m + n) = omega arith in
    let here : sum_by f (range_with_len 0 (m + suc n)) ≡ sum_by f (range_with_len 0 (suc (m + n))) = ap (λ (k : ℕ). sum_by f (range_with_len 0 k)) next in
    omega (arith, range_sum-split m n f, range_sum-suc (m + n) f, range_sum-suc n (λ k. f (m + k)))

-- one term is at most the sum
pub range_sum-term : (n k : ℕ) (f : ℕ → ℕ) → k < n → f k ≤ sum_by f (range_with_len 0 n)
range_sum-term zero k f h = absurd (omega arith)
range_sum-term (suc n) k f h =
    elim (cases_eq k n) [
      | inl e ↦ let here : f k ≡ f n = ap f e in omega (arith, range_sum-suc n f)
      | inr ne ↦ let front : f k ≤ sum_by f (range_with_len 0 n) = range_sum-term n k f (omega arith) in omega (arith, range_sum-suc n f)
    ]

-- the sum over the places of a list is the sum over its elements
pub range_sum-list : {X : Type 0} (g : X → ℕ) (xs : List X) (d : X) → sum_by (λ k. g (get_or xs k d)) (range_with_len 0 (length xs)) ≡ sum_by g xs
range_sum-list g xs d =
    let read = λ (k : ℕ). get_or xs k d in
    sym (fold-map (λ a x. a + g x) read 0 (range_with_len 0 (length xs))) ∙ ap (sum_by g) (sym (fill_by_all read xs (length xs) d refl (λ k h. refl)))
