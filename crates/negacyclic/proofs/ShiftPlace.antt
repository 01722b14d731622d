-- The one coefficient that a power of x brings to a place.
use Rattle.std.proofs.Common.{◌≡◌, ◌≢◌, ℕ, ◌+◌, ◌-◌, ◌*◌, ◌<◌, ℤ, pos, ◌*ℤ◌, neg_ℤ, refl, ◌∙◌, ap, arith, inl, inr}
use Rattle.std.proofs.lemmas.Bool.{cases_lt}
use Rattle.negacyclic.specs.Ring.{turn, shift_at}
use Rattle.negacyclic.proofs.Sums.{total_one}
use Rattle.negacyclic.proofs.Turn.{one_times, minus_times, none_times, turn_here, turn_wrapped, turn_elsewhere, turn_period}

-- x^t counts nothing at a place k, for t below 3N, but where t is k, k + N or k + 2N
turn_nowhere : (N k t : ℕ) → k < N → t < 3 * N → t ≢ k → t ≢ k + N → t ≢ k + 2 * N → turn N k t ≡ pos 0
turn_nowhere N k t h within ne wraps again =
    elim (cases_lt t (2 * N)) [
      | inl low ↦ turn_elsewhere N k t low ne wraps
      | inr high ↦
          let e : t - 2 * N + 2 * N ≡ t = omega arith in
          let round : turn N k t ≡ turn N k (t - 2 * N) = rw e at (turn_period N k (t - 2 * N)) in
          round ∙ turn_elsewhere N k (t - 2 * N) (omega arith) (λ f. again (omega arith)) (omega arith)
    ]

shift_only : (N s k i : ℕ) (a : ℕ → ℤ) → i < N → ((j : ℕ) → j < N → j ≢ i → turn N k (s + j) ≡ pos 0) → shift_at N s a k ≡ turn N k (s + i) *ℤ a i
unfolding shift_at
shift_only N s k i a h others =
    total_one N (λ j. turn N k (s + j) *ℤ a j) i h (λ j below ne. let none = others j below ne in ap (λ (z : ℤ). z *ℤ a j) none ∙ none_times (a j))

-- place k of x^s a where s + i is k
pub shift_at-plain : (N s k i : ℕ) (a : ℕ → ℤ) → k < N → i < N → s < 2 * N → s + i ≡ k → shift_at N s a k ≡ a i
shift_at-plain N s k i a h within small e =
    shift_only N s k i a within (λ j below ne. turn_nowhere N k (s + j) h (omega arith) (λ f. ne (omega arith)) (omega arith) (omega arith))
    ∙ ap (λ (z : ℤ). z *ℤ a i) (turn_here N k (s + i) (omega arith) e)
    ∙ one_times (a i)

-- where it is k + N
pub shift_at-wrapped : (N s k i : ℕ) (a : ℕ → ℤ) → k < N → i < N → s < 2 * N → s + i ≡ k + N → shift_at N s a k ≡ neg_ℤ (a i)
shift_at-wrapped N s k i a h within small e =
    shift_only N s k i a within (λ j below ne. turn_nowhere N k (s + j) h (omega arith) (omega arith) (λ f. ne (omega arith)) (omega arith))
    ∙ ap (λ (z : ℤ). z *ℤ a i) (turn_wrapped N k (s + i) (omega arith) (omega arith) e)
    ∙ minus_times (a i)

-- where it is k + 2N
pub shift_at-twice : (N s k i : ℕ) (a : ℕ → ℤ) → k < N → i < N → s < 2 * N → s + i ≡ k + 2 * N → shift_at N s a k ≡ a i
shift_at-twice N s k i a h within small e =
    shift_only N s k i a within (λ j below ne. turn_nowhere N k (s + j) h (omega arith) (omega arith) (omega arith) (λ f. ne (omega arith)))
    ∙ ap (λ (z : ℤ). z *ℤ a i) (ap (turn N k) e ∙ turn_period N k k ∙ turn_here N k k (omega arith) refl)
    ∙ one_times (a i)
