-- Two lists that a loop fills together, each place from what stood there in both.
use Rattle.std.proofs.Common.{◌≡◌, ℕ, ◌+◌, ◌<◌, List, length, get_or, set, ◌∙◌, ap₂, le_refl}
use Rattle.negacyclic.proofs.Filled.{Filled, filled_none, filled_more}

-- The places below i of both lists hold u and v of what both held there before, and the others what they held.
pub record BothFilled (u v : ℕ → ℕ → ℕ) (low high : List ℕ) (i : ℕ) (low' high' : List ℕ) : Type 0 where
  pub first : Filled (λ k. u (get_or low k 0) (get_or high k 0)) low i low'
  pub second : Filled (λ k. v (get_or low k 0) (get_or high k 0)) high i high'

-- before the first write
pub both_none : (u v : ℕ → ℕ → ℕ) (low high : List ℕ) → BothFilled u v low high 0 low high
both_none u v low high =
    record {
      first = filled_none (λ k. u (get_or low k 0) (get_or high k 0)) low;
      second = filled_none (λ k. v (get_or low k 0) (get_or high k 0)) high;
    }

-- what stands at place i yet
pub both_read : (u v w : ℕ → ℕ → ℕ) (low high : List ℕ) (i : ℕ) (low' high' : List ℕ) → BothFilled u v low high i low' high'
    → w (get_or low' i 0) (get_or high' i 0) ≡ w (get_or low i 0) (get_or high i 0)
both_read u v w low high i low' high' so_far = ap₂ w (so_far.first.rest i 0 (le_refl i)) (so_far.second.rest i 0 (le_refl i))

-- one more place
pub both_more : (u v : ℕ → ℕ → ℕ) (low high : List ℕ) (i : ℕ) (low' high' : List ℕ) (x y : ℕ) → i < length low' → i < length high' → BothFilled u v low high i low' high'
    → x ≡ u (get_or low' i 0) (get_or high' i 0) → y ≡ v (get_or low' i 0) (get_or high' i 0) → BothFilled u v low high (i + 1) (set low' i x) (set high' i y)
both_more u v low high i low' high' x y within within' so_far x_is y_is =
    record {
      first = filled_more (λ k. u (get_or low k 0) (get_or high k 0)) low i low' x within so_far.first (x_is ∙ both_read u v u low high i low' high' so_far);
      second = filled_more (λ k. v (get_or low k 0) (get_or high k 0)) high i high' y within' so_far.second (y_is ∙ both_read u v v low high i low' high' so_far);
    }
