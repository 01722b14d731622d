-- The value of a negacyclic product at a number whose N-th power is -1 is the product of the values.
use Rattle.std.proofs.Common.{◌≡◌, ◌≢◌, ℕ, ◌+◌, ◌-◌, ◌^◌, ◌<◌, ℤ, pos, ◌*ℤ◌, neg_ℤ, refl, sym, ◌∙◌, ap, arith, inl, inr}
use Rattle.std.proofs.lemmas.Bool.{cases_lt}
use Rattle.std.proofs.lemmas.Int.{ints}
use Rattle.std.proofs.lemmas.Nat.{pow-add}
use Rattle.negacyclic.specs.Sums.{total}
use Rattle.negacyclic.specs.Ring.{turn, product_at}
use Rattle.negacyclic.proofs.Integers.{ring, one-mul_ℤ, zero-mul_ℤ, mul_comm_ℤ, neg-mul_ℤ}
use Rattle.negacyclic.proofs.Sums.{total_same, total_one, total_neg, total_mul, total_mul_right}
use Rattle.negacyclic.proofs.Turn.{turn_here, turn_elsewhere, turn_flip}
use Rattle.negacyclic.proofs.Gather.{Turns, gather-product}
use Rattle.negacyclic.proofs.Congruence.{Congruent, congruent_equal, congruent_refl, congruent_sym, congruent_mul, congruent_times, congruent_total}
use Rattle.ring_transform.specs.Values.{value_at}
use Rattle.ring_transform.proofs.Descent.{congruent_along}

module _ (p N z : ℕ) (turned : Congruent p (pos (z ^ N)) (neg_ℤ (pos 1))) where
  -- z^t for t below N, and changed in sign every N places
  turning : ℕ → ℤ
  turning t = total N (λ m. turn N m t *ℤ pos (z ^ m))

  turning_turns : Turns N turning
  unfolding turning
  turning_turns =
      record {
        flips = λ t.
            total_same N (λ m. turn N m (t + N) *ℤ pos (z ^ m)) (λ m. neg_ℤ (turn N m t *ℤ pos (z ^ m)))
            (λ m h. ap (λ (y : ℤ). y *ℤ pos (z ^ m)) (turn_flip N m t h) ∙ neg-mul_ℤ (turn N m t) (pos (z ^ m)))
            ∙ total_neg N (λ m. turn N m t *ℤ pos (z ^ m));
      }

  turning_low : (t : ℕ) → t < N → turning t ≡ pos (z ^ t)
  unfolding turning
  turning_low t h =
      total_one N (λ m. turn N m t *ℤ pos (z ^ m)) t h
      (λ m below ne.
      let other : t ≢ m = λ e. ne (sym e) in
      ap (λ (y : ℤ). y *ℤ pos (z ^ m)) (turn_elsewhere N m t (omega arith) other (omega arith)) ∙ zero-mul_ℤ (pos (z ^ m)))
      ∙ ap (λ (y : ℤ). y *ℤ pos (z ^ t)) (turn_here N t t (omega arith) refl)
      ∙ one-mul_ℤ (pos (z ^ t))

  -- modulo p it is z^t, up to twice N
  turning_power : (t : ℕ) → t < N + N → Congruent p (turning t) (pos (z ^ t))
  turning_power t h =
      elim (cases_lt t N) [
        | inl low ↦ congruent_equal (turning_low t low)
        | inr high ↦
            let r = t - N in
            let place : r + N ≡ t = omega arith in
            let flipped : turning t ≡ neg_ℤ (pos (z ^ r)) = ap turning (sym place) ∙ turning_turns.flips r ∙ ap neg_ℤ (turning_low r (omega arith)) in
            let power : pos (z ^ t) ≡ pos (z ^ r) *ℤ pos (z ^ N) = ap (λ (n : ℕ). pos (z ^ n)) (sym place) ∙ ap pos (pow-add z r N) in
            congruent_along (turning t) (pos (z ^ t)) (flipped ∙ minus (pos (z ^ r))) (sym power) (congruent_times (pos (z ^ r)) (congruent_sym turned))
      ]
    where
      minus : (x : ℤ) → neg_ℤ x ≡ x *ℤ neg_ℤ (pos 1)
      minus x = omega (arith, ints)

  -- the product of the values as a double sum
  double_sum : (f g : ℕ → ℤ) → total N (λ i. total N (λ j. pos (z ^ (i + j)) *ℤ (f i *ℤ g j))) ≡ value_at N f z *ℤ value_at N g z
  unfolding value_at
  double_sum f g =
      total_same N (λ i. total N (λ j. pos (z ^ (i + j)) *ℤ (f i *ℤ g j))) (λ i. f i *ℤ pos (z ^ i) *ℤ total N (λ j. g j *ℤ pos (z ^ j)))
      (λ i h.
      total_same N (λ j. pos (z ^ (i + j)) *ℤ (f i *ℤ g j)) (λ j. f i *ℤ pos (z ^ i) *ℤ (g j *ℤ pos (z ^ j)))
      (λ j k. ap (λ (n : ℕ). pos n *ℤ (f i *ℤ g j)) (pow-add z i j) ∙ order (pos (z ^ i)) (pos (z ^ j)) (f i) (g j))
      ∙ total_mul N (f i *ℤ pos (z ^ i)) (λ j. g j *ℤ pos (z ^ j)))
      ∙ total_mul_right N (λ i. f i *ℤ pos (z ^ i)) (total N (λ j. g j *ℤ pos (z ^ j)))
    where
      order : (u v x y : ℤ) → u *ℤ v *ℤ (x *ℤ y) ≡ x *ℤ u *ℤ (y *ℤ v)
      order u v x y = simp ring

  -- The value of the product.
  pub value_at-product : (f g : ℕ → ℤ) → Congruent p (value_at N (product_at N f g) z) (value_at N f z *ℤ value_at N g z)
  unfolding value_at
  value_at-product f g =
      congruent_along (total N (λ m. product_at N f g m *ℤ pos (z ^ m))) (value_at N f z *ℤ value_at N g z)
      (total_same N (λ m. product_at N f g m *ℤ pos (z ^ m)) (λ m. turning m *ℤ product_at N f g m)
      (λ m h. mul_comm_ℤ (product_at N f g m) (pos (z ^ m)) ∙ ap (λ (y : ℤ). y *ℤ product_at N f g m) (sym (turning_low m h)))
      ∙ gather-product N f g turning turning_turns)
      (double_sum f g)
      (congruent_total N (λ i. total N (λ j. turning (i + j) *ℤ (f i *ℤ g j))) (λ i. total N (λ j. pos (z ^ (i + j)) *ℤ (f i *ℤ g j)))
      (λ i h.
      congruent_total N (λ j. turning (i + j) *ℤ (f i *ℤ g j)) (λ j. pos (z ^ (i + j)) *ℤ (f i *ℤ g j))
      (λ j k. congruent_mul (turning_power (i + j) (omega arith)) (congruent_refl (f i *ℤ g j)))))
