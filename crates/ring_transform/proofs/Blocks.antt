-- The last two layers, over four coefficients, and what one layer's butterflies give.
use Rattle.std.proofs.Common.{◌≡◌, ℕ, suc, ◌+◌, ◌*◌, ◌^◌, ◌<◌, ◌≤◌, ℤ, pos, ◌+ℤ◌, ◌-ℤ◌, ◌*ℤ◌, refl, sym, ◌∙◌, ap, arith}
use Rattle.std.proofs.lemmas.Int.{ints}
use Rattle.negacyclic.proofs.Integers.{ring}
use Rattle.negacyclic.proofs.Congruence.{Congruent, congruent_equal, congruent_refl, congruent_sym, congruent_trans, congruent_add, congruent_sub, congruent_mul, congruent_times}
use Rattle.negacyclic.specs.Residues.{residue}
use Rattle.negacyclic.proofs.Residues.{residue_congruent, residue_same}
use Rattle.ring_transform.specs.Points.{IsPrime, node}
use Rattle.ring_transform.specs.Values.{value_at}
use Rattle.ring_transform.specs.Remainders.{Remainders}
use Rattle.ring_transform.proofs.Polynomials.{value_at-same}
use Rattle.ring_transform.proofs.Descent.{congruent_along}
use Rattle.ring_transform.proofs.Halving.{Halves, part_within, remainders_none, remainders_more}

-- ---- the same coefficients

pub remainders_same : (p s m d j f : ℕ) (whole whole' parts parts' : ℕ → ℤ) → Remainders p s m d j f whole parts
    → ((t : ℕ) → t < 2 ^ m * s → whole' t ≡ whole t) → ((t : ℕ) → t < 2 ^ m * s → parts' t ≡ parts t) → Remainders p s m d j f whole' parts'
remainders_same p s m d j f whole whole' parts parts' known same_whole same_parts =
    record {
      part = λ i z within is.
          congruent_along (pos f *ℤ value_at s (λ t. parts' (i * s + t)) z) (value_at (2 ^ m * s) whole' z)
          (ap (λ (y : ℤ). pos f *ℤ y) (value_at-same s (λ t. parts' (i * s + t)) (λ t. parts (i * s + t)) z (λ t lt. same_parts (i * s + t) (part_within i s t (2 ^ m) within lt))))
          (value_at-same (2 ^ m * s) whole whole' z (λ t lt. sym (same_whole t lt)))
          (known.part i z within is);
    }

-- ---- one butterfly

-- a residue of what a residue was worked out from
pub apart_sum : (p x y w t r : ℕ) → 0 < p → t ≡ residue p (pos w *ℤ pos y) → r ≡ residue p (pos x +ℤ pos t) → r ≡ residue p (pos x +ℤ pos w *ℤ pos y)
apart_sum p x y w t r some turned is =
    is ∙ residue_same some (congruent_add (congruent_refl (pos x)) (congruent_trans (congruent_equal (ap pos turned)) (residue_congruent p (pos w *ℤ pos y) some)))

pub apart_difference : (p x y w t r : ℕ) → 0 < p → t ≡ residue p (pos w *ℤ pos y) → r ≡ residue p (pos x -ℤ pos t) → r ≡ residue p (pos x -ℤ pos w *ℤ pos y)
apart_difference p x y w t r some turned is =
    is ∙ residue_same some (congruent_sub (congruent_refl (pos x)) (congruent_trans (congruent_equal (ap pos turned)) (residue_congruent p (pos w *ℤ pos y) some)))

pub joined_difference : (p x y w t r : ℕ) → 0 < p → t ≡ residue p (pos x -ℤ pos y) → r ≡ residue p (pos t *ℤ pos w) → r ≡ residue p ((pos x -ℤ pos y) *ℤ pos w)
joined_difference p x y w t r some turned is =
    is ∙ residue_same some (congruent_mul (congruent_trans (congruent_equal (ap pos turned)) (residue_congruent p (pos x -ℤ pos y) some)) (congruent_refl (pos w)))

-- Twice x and y are the remainders of what their sum, and their difference times the inverse of w, stand for.
undone_low : (p : ℕ) (w v x y lo hi : ℤ) → Congruent p (w *ℤ v) (pos 1) → Congruent p lo (x +ℤ y) → Congruent p hi ((x -ℤ y) *ℤ v) → Congruent p (pos 2 *ℤ x) (lo +ℤ w *ℤ hi)
undone_low p w v x y lo hi inverse sum difference =
    congruent_sym
    (congruent_along (lo +ℤ w *ℤ hi) (pos 2 *ℤ x) refl (whole x y)
    (congruent_add sum
    (congruent_trans (congruent_times w difference) (congruent_along (w *ℤ ((x -ℤ y) *ℤ v)) (pos 1 *ℤ (x -ℤ y)) (order w v (x -ℤ y)) refl (congruent_mul inverse (congruent_refl (x -ℤ y)))))))
  where
    order : (w v z : ℤ) → w *ℤ (z *ℤ v) ≡ w *ℤ v *ℤ z
    order w v z = simp ring

    whole : (x y : ℤ) → x +ℤ y +ℤ pos 1 *ℤ (x -ℤ y) ≡ pos 2 *ℤ x
    whole x y = omega (arith, ints)

undone_high : (p : ℕ) (w v x y lo hi : ℤ) → Congruent p (w *ℤ v) (pos 1) → Congruent p lo (x +ℤ y) → Congruent p hi ((x -ℤ y) *ℤ v) → Congruent p (pos 2 *ℤ y) (lo -ℤ w *ℤ hi)
undone_high p w v x y lo hi inverse sum difference =
    congruent_sym
    (congruent_along (lo -ℤ w *ℤ hi) (pos 2 *ℤ y) refl (whole x y)
    (congruent_sub sum
    (congruent_trans (congruent_times w difference) (congruent_along (w *ℤ ((x -ℤ y) *ℤ v)) (pos 1 *ℤ (x -ℤ y)) (order w v (x -ℤ y)) refl (congruent_mul inverse (congruent_refl (x -ℤ y)))))))
  where
    order : (w v z : ℤ) → w *ℤ (z *ℤ v) ≡ w *ℤ v *ℤ z
    order w v z = simp ring

    whole : (x y : ℤ) → x +ℤ y -ℤ pos 1 *ℤ (x -ℤ y) ≡ pos 2 *ℤ y
    whole x y = omega (arith, ints)

-- ---- one layer

-- what the layer of the transform gives
pub halves_apart : (p w h : ℕ) (whole low high : ℕ → ℤ) → ((t : ℕ) → t < h → Congruent p (low t) (whole t +ℤ pos w *ℤ whole (h + t)))
    → ((t : ℕ) → t < h → Congruent p (high t) (whole t -ℤ pos w *ℤ whole (h + t))) → Halves p w h 1 whole low high
halves_apart p w h whole low high sums differences =
    record {
      lower = λ t lt. congruent_along (pos 1 *ℤ low t) (whole t +ℤ pos w *ℤ whole (h + t)) (one_times (low t)) refl (sums t lt);
      upper = λ t lt. congruent_along (pos 1 *ℤ high t) (whole t -ℤ pos w *ℤ whole (h + t)) (one_times (high t)) refl (differences t lt);
    }
  where
    one_times : (x : ℤ) → pos 1 *ℤ x ≡ x
    one_times x = omega (arith, ints)

-- and what that of the inverse gives
pub halves_joined : (p w v h : ℕ) (whole low high : ℕ → ℤ) → Congruent p (pos w *ℤ pos v) (pos 1) → ((t : ℕ) → t < h → Congruent p (whole t) (low t +ℤ high t))
    → ((t : ℕ) → t < h → Congruent p (whole (h + t)) ((low t -ℤ high t) *ℤ pos v)) → Halves p w h 2 whole low high
halves_joined p w v h whole low high inverse sums differences =
    record {
      lower = λ t lt. undone_low p (pos w) (pos v) (low t) (high t) (whole t) (whole (h + t)) inverse (sums t lt) (differences t lt);
      upper = λ t lt. undone_high p (pos w) (pos v) (low t) (high t) (whole t) (whole (h + t)) inverse (sums t lt) (differences t lt);
    }

-- ---- two layers of four coefficients

pub four_parts : (p d j f : ℕ) (whole mid parts : ℕ → ℤ) → IsPrime p → d + 2 ≤ 11
    → Halves p (node p (suc d) (2 * j)) 2 f whole mid (λ t. mid (2 + t))
    → Halves p (node p (suc (suc d)) (2 * (2 * j))) 1 f mid parts (λ t. parts (1 + t))
    → Halves p (node p (suc (suc d)) (2 * (2 * j + 1))) 1 f (λ t. mid (2 + t)) (λ t. parts (2 + t)) (λ t. parts (3 + t))
    → Remainders p 1 2 d j (f * (f * 1)) whole parts
four_parts p d j f whole mid parts prime deep first second third =
    let low : Remainders p 1 1 (suc d) (2 * j) (f * 1) mid parts = remainders_more p 1 0 (suc d) (2 * j) f 1 mid parts prime (omega arith) parts (λ t. parts (1 + t)) parts (λ t. parts (1 + t)) second
    (remainders_none p 1 (suc (suc d)) (2 * (2 * j)) parts) (remainders_none p 1 (suc (suc d)) (2 * (2 * j) + 1) (λ t. parts (1 + t))) (λ t lt. refl) (λ t lt. refl) in
    let high : Remainders p 1 1 (suc d) (2 * j + 1) (f * 1) (λ t. mid (2 + t)) (λ t. parts (2 + t)) = remainders_more p 1 0 (suc d) (2 * j + 1) f 1 (λ t. mid (2 + t)) (λ t. parts (2 + t)) prime (omega arith) (λ t. parts (2 + t)) (λ t. parts (3 + t)) (λ t. parts (2 + t)) (λ t. parts (3 + t)) third
    (remainders_none p 1 (suc (suc d)) (2 * (2 * j + 1)) (λ t. parts (2 + t))) (remainders_none p 1 (suc (suc d)) (2 * (2 * j + 1) + 1) (λ t. parts (3 + t))) (λ t lt. refl) (λ t lt. ap parts (omega arith)) in
    remainders_more p 1 1 d j f (f * 1) whole parts prime (omega arith) mid (λ t. mid (2 + t)) parts (λ t. parts (2 + t)) first low high (λ t lt. refl) (λ t lt. refl)
