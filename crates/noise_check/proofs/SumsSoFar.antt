-- Sums that a loop adds up, term by term, with a bound of the terms.
use Rattle.std.proofs.Common.{◌≡◌, ℕ, ◌+◌, ◌*◌, ◌≤◌, ◌∙◌, ap, refl, arith, sum_by}
use Rattle.std.specs.List.{range_with_len}
use Rattle.negacyclic.proofs.RangeSums.{range_sum-more}

-- the sum of the first k terms, each at most `most`
pub record SoFar (f : ℕ → ℕ) (most k total : ℕ) : Type 0 where
  pub value : total ≡ sum_by f (range_with_len 0 k)
  pub size : total ≤ k * most

-- of no terms
pub so_far-none : (f : ℕ → ℕ) (most : ℕ) → SoFar f most 0 0
so_far-none f most = record { value = refl; size = omega arith }

-- of one more
pub so_far-more : (f : ℕ → ℕ) (most k total x : ℕ) → SoFar f most k total → x ≡ f k → x ≤ most → SoFar f most (k + 1) (total + x)
so_far-more f most k total x so_far is small =
    let before : total ≡ sum_by f (range_with_len 0 k) = so_far.value in
    let size : total ≤ k * most = so_far.size in
    record { value = omega (arith, range_sum-more k f); size = omega arith }

-- of all n
pub so_far-all : (f : ℕ → ℕ) (most n k total : ℕ) → SoFar f most k total → k ≡ n → total ≡ sum_by f (range_with_len 0 n)
so_far-all f most n k total so_far all = so_far.value ∙ ap (λ (m : ℕ). sum_by f (range_with_len 0 m)) all
