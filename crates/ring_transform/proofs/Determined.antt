-- Values determine the polynomial: one whose values at all leaves below a node are 0 is 0.
use Rattle.std.proofs.Common.{◌≡◌, ℕ, zero, suc, ◌+◌, ◌-◌, ◌*◌, ◌/◌, ◌^◌, ◌<◌, ◌≤◌, ℤ, pos, ◌+ℤ◌, ◌-ℤ◌, ◌*ℤ◌, neg_ℤ, refl, sym, ◌∙◌, ap, arith, inl, inr}
use Rattle.std.proofs.lemmas.Bool.{cases_lt}
use Rattle.std.proofs.lemmas.Int.{ints}
use Rattle.std.proofs.Math.Nat.{pow-suc}
use Rattle.negacyclic.proofs.Integers.{ring}
use Rattle.negacyclic.proofs.Congruence.{Congruent, congruent_equal, congruent_refl, congruent_sym, congruent_trans, congruent_add, congruent_sub, congruent_mul, congruent_times}
use Rattle.ring_transform.specs.Points.{IsPrime, node, inverse_node}
use Rattle.ring_transform.specs.Values.{value_at}
use Rattle.ring_transform.proofs.Polynomials.{first_power, value_at-one}
use Rattle.ring_transform.proofs.Nodes.{node_right, node_inverse}
use Rattle.ring_transform.proofs.Descent.{congruent_along, descend}
use Rattle.ring_transform.proofs.Halving.{half_value}

-- a number is 0 where its product with one that has an inverse is
without_factor : {p : ℕ} (u v x : ℤ) → Congruent p (v *ℤ u) (pos 1) → Congruent p (v *ℤ x) (pos 0) → Congruent p x (pos 0)
without_factor u v x one none =
    let back = congruent_times u none in
    let front = congruent_mul one (congruent_refl x) in
    congruent_trans (congruent_along x (u *ℤ (v *ℤ x)) (whole x) (turned u v x) (congruent_sym front))
    (congruent_along (u *ℤ (v *ℤ x)) (pos 0) refl (nothing u) back)
  where
    whole : (x : ℤ) → x ≡ pos 1 *ℤ x
    whole x = omega (arith, ints)

    turned : (u v x : ℤ) → v *ℤ u *ℤ x ≡ u *ℤ (v *ℤ x)
    turned u v x = simp ring

    nothing : (u : ℤ) → u *ℤ pos 0 ≡ pos 0
    nothing u = simp ring

-- 2 has an inverse
pub half_inverse : (p : ℕ) → IsPrime p → Congruent p (pos 2 *ℤ pos ((p + 1) / 2)) (pos 1)
half_inverse p (inl e) = rw e (record { times = pos 1; differ = refl })
half_inverse p (inr e) = rw e (record { times = pos 1; differ = refl })

-- the sum and the difference of x and w y are 0 only where both are
both_none : (p w v : ℕ) (x y : ℤ) → IsPrime p → Congruent p (pos w *ℤ pos v) (pos 1) → Congruent p (x +ℤ pos w *ℤ y) (pos 0) → Congruent p (x -ℤ pos w *ℤ y) (pos 0)
    → Congruent p x (pos 0) × Congruent p y (pos 0)
both_none p w v x y prime inverse sum difference =
    let half = half_inverse p prime in
    let twice_x : Congruent p (pos 2 *ℤ x) (pos 0) = congruent_along (pos 2 *ℤ x) (pos 0) (add_up x (pos w *ℤ y)) refl (congruent_add sum difference) in
    let twice_y : Congruent p (pos 2 *ℤ (pos w *ℤ y)) (pos 0) = congruent_along (pos 2 *ℤ (pos w *ℤ y)) (pos 0) (take_away x (pos w *ℤ y)) refl (congruent_sub sum difference) in (
      without_factor (pos ((p + 1) / 2)) (pos 2) x half twice_x,
      without_factor (pos v) (pos w) y inverse (without_factor (pos ((p + 1) / 2)) (pos 2) (pos w *ℤ y) half twice_y),
    )
  where
    add_up : (x y : ℤ) → pos 2 *ℤ x ≡ x +ℤ y +ℤ (x -ℤ y)
    add_up x y = omega (arith, ints)

    take_away : (x y : ℤ) → pos 2 *ℤ y ≡ x +ℤ y -ℤ (x -ℤ y)
    take_away x y = omega (arith, ints)

-- All values below node j at depth d are 0.
pub record NoValue (p d m j : ℕ) (f : ℕ → ℤ) : Type 0 where
  pub leaf : (i z : ℕ) → i < 2 ^ m → z ≡ node p (d + m) (j * 2 ^ m + i) → Congruent p (value_at (2 ^ m) f z) (pos 0)

-- the half of the polynomial that stands for one of the two nodes below
half_no_value : (p d m j c k : ℕ) (u : ℤ) (f half : ℕ → ℤ) → IsPrime p → d + suc m ≤ 11 → c ≡ 2 * j + k → k < 2 → Congruent p (pos (node p (suc d) c)) u
    → ((t : ℕ) → t < 2 ^ m → half t ≡ f t +ℤ u *ℤ f (2 ^ m + t)) → NoValue p d (suc m) j f → NoValue p (suc d) m c half
half_no_value p d m j c k u f half prime deep c_is side at_node places none =
    let twice = pow-suc 2 m in
    let h = 2 ^ m in
    record {
      leaf = λ i z within is.
          let depth : suc d + m ≡ d + suc m = omega arith in
          let place : c * 2 ^ m + i ≡ j * 2 ^ suc m + (k * 2 ^ m + i) = places_add j k i h (2 ^ suc m) c twice c_is in
          let there : z ≡ node p (d + suc m) (j * 2 ^ suc m + (k * 2 ^ m + i)) = is ∙ ap (λ (n : ℕ). node p n (c * 2 ^ m + i)) depth ∙ ap (λ (n : ℕ). node p (d + suc m) n) place in
          let here : Congruent p (pos (z ^ 1)) (pos (node p (suc d + m) (c * 2 ^ m + i))) = congruent_equal (ap pos (first_power z ∙ is)) in
          let power : Congruent p (pos (z ^ h)) u = congruent_along (pos (z ^ h)) u (ap (λ (n : ℕ). pos (z ^ n)) (once h)) refl (congruent_trans (descend m p (suc d) c i 1 z prime (omega arith) within here) at_node) in
          let whole : Congruent p (value_at (2 ^ suc m) f z) (pos 0) = none.leaf (k * 2 ^ m + i) z (within_both k i h (2 ^ suc m) side within twice) there in
          let value : Congruent p (pos 1 *ℤ value_at h half z) (value_at (h + h) f z) = half_value p h 1 z u f half (λ t lt. congruent_equal (one_times (half t) ∙ places t lt)) power in
          congruent_trans (congruent_along (value_at h half z) (value_at (2 ^ suc m) f z) (sym (one_times (value_at h half z))) (ap (λ (n : ℕ). value_at n f z) (doubled h (2 ^ suc m) twice)) value) whole;
    }
  where
    places_add : (j k i w t c : ℕ) → t ≡ w * 2 → c ≡ 2 * j + k → c * w + i ≡ j * t + (k * w + i)
    places_add j k i w t c e g = rw (e, g) (omega arith)

    once : (h : ℕ) → h ≡ h * 1
    once h = omega arith

    doubled : (w t : ℕ) → t ≡ w * 2 → w + w ≡ t
    doubled w t e = omega arith

    one_times : (x : ℤ) → pos 1 *ℤ x ≡ x
    one_times x = omega (arith, ints)

    within_both : (k i w t : ℕ) → k < 2 → i < w → t ≡ w * 2 → k * w + i < t
    within_both zero i w t side h e = omega arith
    within_both (suc zero) i w t side h e = omega arith
    within_both (suc (suc k)) i w t side h e = absurd (omega arith)

-- It is 0.
pub zero_from_values : (m p d j : ℕ) (f : ℕ → ℤ) → IsPrime p → d + m ≤ 11 → NoValue p d m j f → (t : ℕ) → t < 2 ^ m → Congruent p (f t) (pos 0)
zero_from_values zero p d j f prime deep none t within =
    let first : t ≡ 0 = omega arith in
    let z = node p (d + zero) (j * 2 ^ zero + 0) in
    congruent_along (f t) (pos 0) (ap f first ∙ sym (value_at-one f z)) refl (none.leaf 0 z (omega arith) refl)
zero_from_values (suc m) p d j f prime deep none t within =
    let h = 2 ^ m in
    let w = node p (suc d) (2 * j) in
    let twice = pow-suc 2 m in
    let low : ℕ → ℤ = λ t. f t +ℤ pos w *ℤ f (h + t) in
    let high : ℕ → ℤ = λ t. f t +ℤ neg_ℤ (pos w) *ℤ f (h + t) in
    let low_none = half_no_value p d m j (2 * j) 0 (pos w) f low prime deep (omega arith) (omega arith) (congruent_refl (pos w)) (λ t lt. refl) none in
    let high_none = half_no_value p d m j (2 * j + 1) 1 (neg_ℤ (pos w)) f high prime deep refl (omega arith) (node_right p d j prime (omega arith)) (λ t lt. refl) none in
    let both : (s : ℕ) → s < h → Congruent p (f s) (pos 0) × Congruent p (f (h + s)) (pos 0) = λ s lt.
    both_none p w (inverse_node p (suc d) (2 * j)) (f s) (f (h + s)) prime (node_inverse p (suc d) (2 * j) prime (omega arith))
    (zero_from_values m p (suc d) (2 * j) low prime (omega arith) low_none s lt)
    (congruent_along (f s -ℤ pos w *ℤ f (h + s)) (pos 0) (minus (f s) (pos w) (f (h + s))) refl (zero_from_values m p (suc d) (2 * j + 1) high prime (omega arith) high_none s lt)) in
    elim (cases_lt t h) [
      | inl below ↦ (both t below).0
      | inr past ↦
          let place : h + (t - h) ≡ t = omega arith in
          congruent_along (f t) (pos 0) (ap f (sym place)) refl (both (t - h) (omega arith)).1
    ]
  where
    minus : (x w y : ℤ) → x -ℤ w *ℤ y ≡ x +ℤ neg_ℤ w *ℤ y
    minus x w y = simp ring (omega (arith, ints))
