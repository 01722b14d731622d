-- What a layer keeps: remainders through one layer more, and through several layers.
use Rattle.std.proofs.Common.{◌≡◌, ℕ, suc, ◌+◌, ◌-◌, ◌*◌, ◌/◌, ◌%◌, ◌^◌, ◌<◌, ◌≤◌, ℤ, pos, ◌+ℤ◌, ◌-ℤ◌, ◌*ℤ◌, neg_ℤ, refl, sym, ◌∙◌, ap, arith, inl, inr}
use Rattle.std.proofs.lemmas.Bool.{cases_lt}
use Rattle.std.proofs.lemmas.Int.{ints}
use Rattle.std.proofs.lemmas.Nat.{pow-add, pow_pos, mod_below, div_below, div-add-mod'}
use Rattle.std.proofs.Math.Nat.{pow-suc}
use Rattle.negacyclic.proofs.Integers.{ring, mul-assoc_ℤ}
use Rattle.negacyclic.proofs.Congruence.{Congruent, congruent_equal, congruent_refl, congruent_sym, congruent_trans, congruent_add, congruent_mul, congruent_times}
use Rattle.ring_transform.specs.Points.{IsPrime, node}
use Rattle.ring_transform.specs.Values.{value_at}
use Rattle.ring_transform.specs.Remainders.{Remainders}
use Rattle.ring_transform.proofs.Polynomials.{value_at-same, value_at-congruent, value_at-scaled, value_at-combined, value_at-split}
use Rattle.ring_transform.proofs.Nodes.{node_right}
use Rattle.ring_transform.proofs.Descent.{congruent_along, descend}

-- Two polynomials of h coefficients which, taken `factor` times, are the remainders of one of 2h modulo x^h - w and x^h + w.
pub record Halves (p w h factor : ℕ) (whole low high : ℕ → ℤ) : Type 0 where
  pub lower : (t : ℕ) → t < h → Congruent p (pos factor *ℤ low t) (whole t +ℤ pos w *ℤ whole (h + t))
  pub upper : (t : ℕ) → t < h → Congruent p (pos factor *ℤ high t) (whole t -ℤ pos w *ℤ whole (h + t))

-- a part with the value u of x^h has the value of the whole
pub half_value : (p h factor z : ℕ) (u : ℤ) (whole half : ℕ → ℤ) → ((t : ℕ) → t < h → Congruent p (pos factor *ℤ half t) (whole t +ℤ u *ℤ whole (h + t)))
    → Congruent p (pos (z ^ h)) u → Congruent p (pos factor *ℤ value_at h half z) (value_at (h + h) whole z)
half_value p h factor z u whole half places power =
    let upper : ℕ → ℤ = λ t. whole (h + t) in
    let combined : Congruent p (value_at h (λ t. pos factor *ℤ half t) z) (value_at h (λ t. whole t +ℤ u *ℤ upper t) z) = value_at-congruent h (λ t. pos factor *ℤ half t) (λ t. whole t +ℤ u *ℤ upper t) z places in
    let turned : Congruent p (value_at h whole z +ℤ u *ℤ value_at h upper z) (value_at h whole z +ℤ pos (z ^ h) *ℤ value_at h upper z) = congruent_add (congruent_refl (value_at h whole z)) (congruent_mul (congruent_sym power) (congruent_refl (value_at h upper z))) in
    congruent_along (pos factor *ℤ value_at h half z) (value_at (h + h) whole z) (sym (value_at-scaled h half (pos factor) z)) (sym (value_at-split h h whole z))
    (congruent_trans combined (congruent_trans (congruent_equal (value_at-combined h whole upper u z)) turned))

-- a product of two factors, and a place within the parts
factors : (f g : ℕ) (y : ℤ) → pos (f * g) *ℤ y ≡ pos f *ℤ (pos g *ℤ y)
factors f g y = mul-assoc_ℤ (pos f) (pos g) y

pub part_within : (i s t w : ℕ) → i < w → t < s → i * s + t < w * s
part_within i s t w h lt = let gap : w ≡ i + 1 + (w - i - 1) = omega arith in rw gap (omega arith)

-- ---- no layer

pub remainders_none : (p s d j : ℕ) (whole : ℕ → ℤ) → Remainders p s 0 d j 1 whole whole
remainders_none p s d j whole =
    record {
      part = λ i z within is.
          let none : i ≡ 0 = omega arith in
          let size : 2 ^ 0 * s ≡ s = omega arith in
          congruent_equal
          (one_times (value_at s (λ t. whole (i * s + t)) z)
          ∙ value_at-same s (λ t. whole (i * s + t)) whole z (λ t h. ap whole (first i s t none))
          ∙ ap (λ (n : ℕ). value_at n whole z) (sym size));
    }
  where
    one_times : (x : ℤ) → pos 1 *ℤ x ≡ x
    one_times x = omega (arith, ints)

    first : (i s t : ℕ) → i ≡ 0 → i * s + t ≡ t
    first i s t e = rw e (omega arith)

-- ---- one layer more

module _ (p s m d j f g : ℕ) (whole parts : ℕ → ℤ) (prime : IsPrime p) (deep : d + suc m ≤ 11) where
  -- the parts below node c, one of the two nodes below node j
  under : (u : ℤ) (c k i z : ℕ) (half half_parts : ℕ → ℤ) → c ≡ 2 * j + k → i < 2 ^ m
      → ((t : ℕ) → t < 2 ^ m * s → Congruent p (pos f *ℤ half t) (whole t +ℤ u *ℤ whole (2 ^ m * s + t)))
      → Congruent p (pos (node p (suc d) c)) u → Remainders p s m (suc d) c g half half_parts
      → ((t : ℕ) → t < 2 ^ m * s → parts (k * (2 ^ m * s) + t) ≡ half_parts t)
      → Congruent p (pos (z ^ s)) (pos (node p (d + suc m) (j * 2 ^ suc m + (k * 2 ^ m + i))))
      → Congruent p (pos (f * g) *ℤ value_at s (λ t. parts ((k * 2 ^ m + i) * s + t)) z) (value_at (2 ^ suc m * s) whole z)
  under u c k i z half half_parts c_is within places at_node below same is =
      let twice = pow-suc 2 m in
      let h = 2 ^ m * s in
      let depth : d + suc m ≡ suc d + m = omega arith in
      let place : j * 2 ^ suc m + (k * 2 ^ m + i) ≡ c * 2 ^ m + i = places_add j k i (2 ^ m) (2 ^ suc m) c twice c_is in
      let here : Congruent p (pos (z ^ s)) (pos (node p (suc d + m) (c * 2 ^ m + i))) = congruent_along (pos (z ^ s)) (pos (node p (suc d + m) (c * 2 ^ m + i))) refl
      (ap (λ (n : ℕ). pos (node p n (j * 2 ^ suc m + (k * 2 ^ m + i)))) depth ∙ ap (λ (n : ℕ). pos (node p (suc d + m) n)) place) is in
      let power : Congruent p (pos (z ^ h)) u = congruent_trans (descend m p (suc d) c i s z prime (omega arith) within here) at_node in
      let lower : Congruent p (pos g *ℤ value_at s (λ t. half_parts (i * s + t)) z) (value_at h half z) = below.part i z within here in
      let upper : Congruent p (pos f *ℤ value_at h half z) (value_at (h + h) whole z) = half_value p h f z u whole half places power in
      let size : h + h ≡ 2 ^ suc m * s = sizes_add (2 ^ m) (2 ^ suc m) s twice in
      let named : value_at s (λ t. parts ((k * 2 ^ m + i) * s + t)) z ≡ value_at s (λ t. half_parts (i * s + t)) z = value_at-same s (λ t. parts ((k * 2 ^ m + i) * s + t)) (λ t. half_parts (i * s + t)) z
      (λ t lt. ap parts (parts_add k (2 ^ m) i s t) ∙ same (i * s + t) (part_within i s t (2 ^ m) within lt)) in
      congruent_along (pos (f * g) *ℤ value_at s (λ t. parts ((k * 2 ^ m + i) * s + t)) z) (value_at (2 ^ suc m * s) whole z)
      (ap (λ (y : ℤ). pos (f * g) *ℤ y) named ∙ factors f g (value_at s (λ t. half_parts (i * s + t)) z))
      (ap (λ (n : ℕ). value_at n whole z) size)
      (congruent_trans (congruent_times (pos f) lower) upper)
    where
      places_add : (j k i w t c : ℕ) → t ≡ w * 2 → c ≡ 2 * j + k → j * t + (k * w + i) ≡ c * w + i
      places_add j k i w t c e g = rw (e, g) (omega arith)

      sizes_add : (w t s : ℕ) → t ≡ w * 2 → w * s + w * s ≡ t * s
      sizes_add w t s e = rw e (omega arith)

      parts_add : (k w i s t : ℕ) → (k * w + i) * s + t ≡ k * (w * s) + (i * s + t)
      parts_add k w i s t = omega arith

  -- One layer more: the two halves, and the parts of each.
  pub remainders_more : (low high low_parts high_parts : ℕ → ℤ) → Halves p (node p (suc d) (2 * j)) (2 ^ m * s) f whole low high
      → Remainders p s m (suc d) (2 * j) g low low_parts → Remainders p s m (suc d) (2 * j + 1) g high high_parts
      → ((t : ℕ) → t < 2 ^ m * s → parts t ≡ low_parts t) → ((t : ℕ) → t < 2 ^ m * s → parts (2 ^ m * s + t) ≡ high_parts t)
      → Remainders p s (suc m) d j (f * g) whole parts
  remainders_more low high low_parts high_parts halves below_low below_high same_low same_high =
      let twice = pow-suc 2 m in
      let w = node p (suc d) (2 * j) in
      record {
        part = λ i z within is.
            elim (cases_lt i (2 ^ m)) as (λ _. Congruent p (pos (f * g) *ℤ value_at s (λ t. parts (i * s + t)) z) (value_at (2 ^ suc m * s) whole z)) [
              | inl low_side ↦
                  let at_place : 0 * 2 ^ m + i ≡ i = omega arith in
                  rw at_place at
                  (under (pos w) (2 * j) 0 i z low low_parts (omega arith) low_side halves.lower (congruent_refl (pos w)) below_low
                  (λ t lt. ap parts (none (2 ^ m * s) t) ∙ same_low t lt)
                  (rw (← at_place) at is))
              | inr high_side ↦
                  let at_place : 1 * 2 ^ m + (i - 2 ^ m) ≡ i = omega arith in
                  rw at_place at
                  (under (neg_ℤ (pos w)) (2 * j + 1) 1 (i - 2 ^ m) z high high_parts refl (omega arith)
                  (λ t lt. congruent_along (pos f *ℤ high t) (whole t +ℤ neg_ℤ (pos w) *ℤ whole (2 ^ m * s + t)) refl (minus (whole t) (pos w) (whole (2 ^ m * s + t))) (halves.upper t lt))
                  (node_right p d j prime (omega arith)) below_high
                  (λ t lt. ap parts (once (2 ^ m * s) t) ∙ same_high t lt)
                  (rw (← at_place) at is))
            ];
      }
    where
      none : (w t : ℕ) → 0 * w + t ≡ t
      none w t = omega arith

      once : (w t : ℕ) → 1 * w + t ≡ w + t
      once w t = omega arith

      minus : (x w y : ℤ) → x -ℤ w *ℤ y ≡ x +ℤ neg_ℤ w *ℤ y
      minus x w y = simp ring (omega (arith, ints))

-- ---- several layers after several

-- The parts of the parts.
pub remainders_compose : (p t m l d j f g : ℕ) (whole mid parts : ℕ → ℤ) → IsPrime p → d + (m + l) ≤ 11 → Remainders p (2 ^ l * t) m d j f whole mid
    → ((i : ℕ) → i < 2 ^ m → Remainders p t l (d + m) (j * 2 ^ m + i) g (λ u. mid (i * (2 ^ l * t) + u)) (λ u. parts (i * (2 ^ l * t) + u)))
    → Remainders p t (m + l) d j (f * g) whole parts
remainders_compose p t m l d j f g whole mid parts prime deep first second =
    let w = 2 ^ l in
    let some = pow_pos l in
    let both : 2 ^ (m + l) ≡ 2 ^ m * w = pow-add 2 m l in
    record {
      part = λ k z within is.
          let i = k / w in
          let r = k % w in
          let i_within : i < 2 ^ m = div_below k w (2 ^ m) some (omega (arith, both)) in
          let r_within : r < w = mod_below k w some in
          let split : i * w + r ≡ k = div-add-mod' k w in
          let depth : d + (m + l) ≡ d + m + l = omega arith in
          let place : j * 2 ^ (m + l) + k ≡ (j * 2 ^ m + i) * w + r = place_split j k i r w (2 ^ m) (2 ^ (m + l)) both split in
          let here : Congruent p (pos (z ^ t)) (pos (node p (d + m + l) ((j * 2 ^ m + i) * w + r))) = congruent_along (pos (z ^ t)) (pos (node p (d + m + l) ((j * 2 ^ m + i) * w + r))) refl
          (ap (λ (n : ℕ). pos (node p n (j * 2 ^ (m + l) + k))) depth ∙ ap (λ (n : ℕ). pos (node p (d + m + l) n)) place) is in
          let above = descend l p (d + m) (j * 2 ^ m + i) r t z prime (omega arith) r_within here in
          let lower = (second i i_within).part r z r_within here in
          let upper = first.part i z i_within above in
          let named : value_at t (λ u. parts (k * t + u)) z ≡ value_at t (λ u. parts (i * (w * t) + (r * t + u))) z = value_at-same t (λ u. parts (k * t + u)) (λ u. parts (i * (w * t) + (r * t + u))) z (λ u lt. ap parts (part_split k i r w t u split)) in
          congruent_along (pos (f * g) *ℤ value_at t (λ u. parts (k * t + u)) z) (value_at (2 ^ (m + l) * t) whole z)
          (ap (λ (y : ℤ). pos (f * g) *ℤ y) named ∙ factors f g (value_at t (λ u. parts (i * (w * t) + (r * t + u))) z))
          (ap (λ (n : ℕ). value_at n whole z) (size_split w (2 ^ m) (2 ^ (m + l)) t both))
          (congruent_trans (congruent_times (pos f) lower) upper);
    }
  where
    place_split : (j k i r w v both : ℕ) → both ≡ v * w → i * w + r ≡ k → j * both + k ≡ (j * v + i) * w + r
    place_split j k i r w v both e split = rw (e, ← split) (omega arith)

    part_split : (k i r w t u : ℕ) → i * w + r ≡ k → k * t + u ≡ i * (w * t) + (r * t + u)
    part_split k i r w t u split = rw (← split) (omega arith)

    size_split : (w v both t : ℕ) → both ≡ v * w → v * (w * t) ≡ both * t
    size_split w v both t e = rw e (omega arith)
