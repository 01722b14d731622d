-- Phases b - s a of two polynomials a and b under a secret s, as rows of a ciphertext have them: what they carry, and how far
-- they are from it.
use Rattle.std.proofs.Common.{◌≡◌, ℕ, ◌+◌, ◌-◌, ◌*◌, ◌^◌, ◌<◌, ◌≤◌, ℤ, pos, ◌+ℤ◌, ◌-ℤ◌, ◌*ℤ◌, unsigned_abs, List, map, All, sum_by, sym, ◌∙◌, ap, arith, le_of_eq}
use Rattle.std.specs.List.{range_with_len}
use Rattle.std.proofs.lemmas.Int.{ints}
use Rattle.negacyclic.specs.Sums.{total}
use Rattle.negacyclic.specs.Digits.{digit}
use Rattle.negacyclic.specs.Residues.{cen, norm}
use Rattle.negacyclic.specs.Ring.{product_at, at, ring_add, ring_sub, ring_mul, ring_total, ring_scale}
use Rattle.negacyclic.proofs.Integers.{ring}
use Rattle.negacyclic.proofs.Sums.{total_sub}
use Rattle.negacyclic.proofs.Congruence.{Congruent, congruent_equal, congruent_refl, congruent_sym, congruent_trans, congruent_add, congruent_sub}
use Rattle.negacyclic.proofs.Product.{product_at-left_comm, product_at-add, product_at-sub, product_at-scale, product_at-total}
use Rattle.negacyclic.proofs.Bounds.{centred, follows_centred, centred_below}
use Rattle.negacyclic.proofs.RangeSums.{range_sum-mul}
use Rattle.negacyclic.proofs.DigitSums.{digits_small, digits_gather}
use Rattle.negacyclic.proofs.Norm.{unsigned_abs-product_at}
use Rattle.negacyclic.proofs.Stands.{Follows, Stands, product_at-congruent, follows_at, add_of, sub_of, mul_of, scale_of, total_of}
use Rattle.negacyclic.proofs.Within.{Within, within_by, within_exact, within_most, within_same, within_trans, within_add, within_sub, within_scale, within_total, small_difference, within_difference}

-- ---- phases

-- Place k of the phase b - s a.
unfoldable pub phase_at : ℕ → List ℕ → List ℕ → List ℕ → ℕ → ℤ
phase_at N s a b k = at b k -ℤ product_at N (at s) (at a) k

module _ {q : ℕ} (N : ℕ) (some : 0 < q) (s : List ℕ) where
  own : (a : List ℕ) → Follows q N a (at a)
  own a = follows_at q N a

  -- the phase as a polynomial
  pub stands_phase : (a b : List ℕ) → Stands q N (ring_sub q N b (ring_mul q N s a)) (phase_at N s a b)
  unfolding phase_at
  stands_phase a b = sub_of some (own b) (mul_of some (own s) (own a)).follows

  -- the phase of polynomials that follow functions
  pub phase_follows : {a b : List ℕ} {f g : ℕ → ℤ} (k : ℕ) → Follows q N a f → Follows q N b g → k < N
      → Congruent q (phase_at N s a b k) (g k -ℤ product_at N (at s) f k)
  unfolding phase_at
  phase_follows {a} {b} {f} {g} k left right h =
      congruent_sub (right.place k h) (product_at-congruent N (at s) (at s) (at a) f k (λ i lt. congruent_refl (at s i)) left.place)

  -- of sums and differences
  pub phase_add : (a b c d : List ℕ) (k : ℕ) → k < N
      → Congruent q (phase_at N s (ring_add q N a c) (ring_add q N b d) k) (phase_at N s a b k +ℤ phase_at N s c d k)
  unfolding phase_at
  phase_add a b c d k h =
      congruent_trans (phase_follows k (add_of some (own a) (own c)).follows (add_of some (own b) (own d)).follows h)
      (congruent_equal (let apart = product_at-add N (at s) (at a) (at c) k in omega (arith, ints)))

  pub phase_sub : (a b c d : List ℕ) (k : ℕ) → k < N
      → Congruent q (phase_at N s (ring_sub q N a c) (ring_sub q N b d) k) (phase_at N s a b k -ℤ phase_at N s c d k)
  unfolding phase_at
  phase_sub a b c d k h =
      congruent_trans (phase_follows k (sub_of some (own a) (own c)).follows (sub_of some (own b) (own d)).follows h)
      (congruent_equal (let apart = product_at-sub N (at s) (at a) (at c) k in omega (arith, ints)))

  -- of multiples
  pub phase_scale : (z : ℤ) (a b : List ℕ) (k : ℕ) → k < N
      → Congruent q (phase_at N s (ring_scale q N z a) (ring_scale q N z b) k) (z *ℤ phase_at N s a b k)
  unfolding phase_at
  phase_scale z a b k h =
      congruent_trans (phase_follows k (scale_of some z (own a)).follows (scale_of some z (own b)).follows h)
      (congruent_equal
      (ap (λ (y : ℤ). z *ℤ at b k -ℤ y) (product_at-scale N (at s) (at a) z k) ∙ spread z (at b k) (product_at N (at s) (at a) k)))
    where
      spread : (z x y : ℤ) → z *ℤ x -ℤ z *ℤ y ≡ z *ℤ (x -ℤ y)
      spread z x y = simp ring (omega (arith, ints))

  -- of sums of many
  pub phase_total : (count : ℕ) (a b : ℕ → List ℕ) (k : ℕ) → k < N
      → Congruent q (phase_at N s (ring_total q N count a) (ring_total q N count b) k) (total count (λ i. phase_at N s (a i) (b i) k))
  unfolding phase_at
  phase_total count a b k h =
      congruent_trans
      (phase_follows k (total_of some count a (λ i. at (a i)) (λ i lt. own (a i))).follows (total_of some count b (λ i. at (b i)) (λ i lt. own (b i))).follows h)
      (congruent_equal
      (ap (λ (z : ℤ). total count (λ i. at (b i) k) -ℤ z) (product_at-total N (at s) count (λ i. at (a i)) k)
      ∙ sym (total_sub count (λ i. at (b i) k) (λ i. product_at N (at s) (at (a i)) k))))

  -- of products
  pub phase_mul : (w a b : List ℕ) (k : ℕ) → k < N
      → Congruent q (phase_at N s (ring_mul q N w a) (ring_mul q N w b) k) (product_at N (at w) (phase_at N s a b) k)
  unfolding phase_at
  phase_mul w a b k h =
      congruent_trans (phase_follows k (mul_of some (own w) (own a)).follows (mul_of some (own w) (own b)).follows h)
      (congruent_equal
      (ap (λ (z : ℤ). product_at N (at w) (at b) k -ℤ z) (product_at-left_comm N (at s) (at w) (at a) k h)
      ∙ sym (product_at-sub N (at w) (at b) (product_at N (at s) (at a)) k)))

-- ---- what a phase carries

-- The phase is f at each place, but for an error of at most m.
pub record Carries (q N : ℕ) (s a b : List ℕ) (f : ℕ → ℤ) (m : ℕ) : Type 0 where
  pub place : (k : ℕ) → k < N → Within q m (phase_at N s a b k) (f k)

-- The phase is f and the centred coefficients of the noise e.
pub record Noisy (q N : ℕ) (s a b e : List ℕ) (f : ℕ → ℤ) : Type 0 where
  pub place : (k : ℕ) → k < N → Congruent q (phase_at N s a b k) (f k +ℤ centred q e k)

module _ {q N : ℕ} {s : List ℕ} where
  -- the phase itself
  pub carries_phase : (a b : List ℕ) → Carries q N s a b (phase_at N s a b) 0
  carries_phase a b = record { place = λ k h. within_exact (congruent_refl (phase_at N s a b k)) }

  -- a weaker bound
  pub carries_most : {m n : ℕ} {a b : List ℕ} {f : ℕ → ℤ} → m ≤ n → Carries q N s a b f m → Carries q N s a b f n
  carries_most weaker h = record { place = λ k lt. within_most weaker (h.place k lt) }

  -- another function near the first
  pub carries_near : {m n : ℕ} {a b : List ℕ} {f g : ℕ → ℤ} → Carries q N s a b f m → ((k : ℕ) → k < N → Within q n (f k) (g k)) → Carries q N s a b g (m + n)
  carries_near h near = record { place = λ k lt. within_trans (h.place k lt) (near k lt) }

  -- an equal or congruent one
  pub carries_same : {m : ℕ} {a b : List ℕ} {f g : ℕ → ℤ} → Carries q N s a b f m → ((k : ℕ) → k < N → Congruent q (f k) (g k)) → Carries q N s a b g m
  carries_same {m} {a} {b} h same = record { place = λ k lt. within_same (congruent_refl (phase_at N s a b k)) (same k lt) (h.place k lt) }

  -- sums and differences
  pub carries_add : {m n : ℕ} {a b c d : List ℕ} {f g : ℕ → ℤ} → 0 < q → Carries q N s a b f m → Carries q N s c d g n
      → Carries q N s (ring_add q N a c) (ring_add q N b d) (λ k. f k +ℤ g k) (m + n)
  carries_add {m} {n} {a} {b} {c} {d} {f} {g} some h l =
      record { place = λ k lt. within_same (phase_add N some s a b c d k lt) (congruent_refl (f k +ℤ g k)) (within_add (h.place k lt) (l.place k lt)) }

  pub carries_sub : {m n : ℕ} {a b c d : List ℕ} {f g : ℕ → ℤ} → 0 < q → Carries q N s a b f m → Carries q N s c d g n
      → Carries q N s (ring_sub q N a c) (ring_sub q N b d) (λ k. f k -ℤ g k) (m + n)
  carries_sub {m} {n} {a} {b} {c} {d} {f} {g} some h l =
      record { place = λ k lt. within_same (phase_sub N some s a b c d k lt) (congruent_refl (f k -ℤ g k)) (within_sub (h.place k lt) (l.place k lt)) }

  -- multiples
  pub carries_scale : {m : ℕ} {a b : List ℕ} {f : ℕ → ℤ} (z : ℤ) → 0 < q → Carries q N s a b f m
      → Carries q N s (ring_scale q N z a) (ring_scale q N z b) (λ k. z *ℤ f k) (unsigned_abs z * m)
  carries_scale {m} {a} {b} {f} z some h =
      record { place = λ k lt. within_same (phase_scale N some s z a b k lt) (congruent_refl (z *ℤ f k)) (within_scale z (h.place k lt)) }

  -- sums of many: the bound is the sum of the bounds
  pub carries_total : (count : ℕ) (a b : ℕ → List ℕ) (f : ℕ → ℕ → ℤ) (m : ℕ → ℕ) → 0 < q → ((i : ℕ) → i < count → Carries q N s (a i) (b i) (f i) (m i))
      → Carries q N s (ring_total q N count a) (ring_total q N count b) (λ k. total count (λ i. f i k)) (sum_by m (range_with_len 0 count))
  carries_total count a b f m some each =
      record {
        place = λ k lt.
            within_same (phase_total N some s count a b k lt) (congruent_refl (total count (λ i. f i k)))
            (within_total count m (λ i. phase_at N s (a i) (b i) k) (λ i. f i k) (λ i h. (each i h).place k lt));
      }

  -- ---- noise

  -- The noise that is measured, the phase less the message, as a polynomial
  pub noisy_measured : {a b message : List ℕ} {f : ℕ → ℤ} → 0 < q → Follows q N message f
      → Noisy q N s a b (ring_sub q N (ring_sub q N b (ring_mul q N s a)) message) f
  noisy_measured {a} {b} {message} {f} some follows =
      let noise : List ℕ = ring_sub q N (ring_sub q N b (ring_mul q N s a)) message in
      let stands = sub_of some (stands_phase N some s a b).follows follows in
      record {
        place = λ k h.
            congruent_trans (congruent_equal (omega (arith, ints)))
            (congruent_add (congruent_refl (f k)) (congruent_trans (congruent_sym (stands.follows.place k h)) ((follows_centred q N noise).place k h)));
      }

  -- a bound of the noise
  pub carries_noisy : {m : ℕ} {a b e : List ℕ} {f : ℕ → ℤ} → Noisy q N s a b e f → All (λ x. unsigned_abs (cen q x) ≤ m) e → Carries q N s a b f m
  carries_noisy {m} {a} {b} {e} noisy all = record { place = λ k h. within_by (centred q e k) (centred_below q m e k all) (noisy.place k h) }

  -- An equal or congruent function
  pub noisy_same : {a b e : List ℕ} {f g : ℕ → ℤ} → Noisy q N s a b e f → ((k : ℕ) → k < N → Congruent q (f k) (g k)) → Noisy q N s a b e g
  noisy_same {a} {b} {e} noisy same =
      record { place = λ k h. congruent_trans (noisy.place k h) (congruent_add (same k h) (congruent_refl (centred q e k))) }

  -- The product with a polynomial w of centred coefficients of at most m carries the product of w and f, within m times the
  -- norm of the noise.
  pub carries_mul : (m : ℕ) (w : List ℕ) {a b e : List ℕ} {f : ℕ → ℤ} → 0 < q → All (λ x. unsigned_abs (cen q x) ≤ m) w → Noisy q N s a b e f
      → Carries q N s (ring_mul q N w a) (ring_mul q N w b) (product_at N (at w) f) (m * norm q e)
  carries_mul m w {a} {b} {e} {f} some all noisy =
      record {
        place = λ k h.
            within_by (product_at N (centred q w) (centred q e) k) (unsigned_abs-product_at q N m (centred q w) e k h (λ i. centred_below q m w i all))
            (congruent_trans (phase_mul N some s w a b k h)
            (congruent_trans (product_at-congruent N (at w) (at w) (phase_at N s a b) (λ j. f j +ℤ centred q e j) k (λ i lt. congruent_refl (at w i)) noisy.place)
            (congruent_trans (congruent_equal (product_at-add N (at w) f (centred q e) k))
            (congruent_add (congruent_refl (product_at N (at w) f k))
            (product_at-congruent N (at w) (centred q w) (centred q e) (centred q e) k (follows_centred q N w).place (λ j lt. congruent_refl (centred q e j)))))));
      }

  -- ---- lists

  -- What a phase carries within m is what the noise bounds,
  pub small_from_carries : {m : ℕ} {a b message : List ℕ} {f : ℕ → ℤ} → 0 < q → Carries q N s a b f m → Follows q N message f
      → All (λ x. unsigned_abs (cen q x) ≤ m) (ring_sub q N (ring_sub q N b (ring_mul q N s a)) message)
  small_from_carries {m} {a} {b} some h follows = small_difference some (stands_phase N some s a b).follows follows h.place

  -- and the other way round.
  pub carries_from_small : {m : ℕ} {a b message : List ℕ} {f : ℕ → ℤ} → 0 < q → Follows q N message f
      → All (λ x. unsigned_abs (cen q x) ≤ m) (ring_sub q N (ring_sub q N b (ring_mul q N s a)) message) → Carries q N s a b f m
  carries_from_small {m} {a} {b} some follows all =
      record { place = λ k h. within_difference k some (stands_phase N some s a b).follows follows all h }

-- ---- products with the digits of a polynomial

-- The sum over the digits of x of products with row j of a key that carries 2^(w j) f: it carries the product of x and f.
pub carries_digit_sum : (q N w t : ℕ) (s x : List ℕ) (a b e : ℕ → List ℕ) (f : ℕ → ℤ) → 0 < q → All (λ y. y < 2 ^ (w * t)) x
    → ((j : ℕ) → j < t → Noisy q N s (a j) (b j) (e j) (λ i. pos (2 ^ (w * j)) *ℤ f i))
    → Carries q N s (ring_total q N t (λ j. ring_mul q N (map (λ y. digit (2 ^ w) j y) x) (a j))) (ring_total q N t (λ j. ring_mul q N (map (λ y. digit (2 ^ w) j y) x) (b j)))
    (product_at N (at x) f) ((2 ^ w - 1) * sum_by (λ j. norm q (e j)) (range_with_len 0 t))
carries_digit_sum q N w t s x a b e f some below noisy =
    let digits : ℕ → List ℕ = λ j. map (λ y. digit (2 ^ w) j y) x in
    let bound : ℕ → ℕ = λ j. (2 ^ w - 1) * norm q (e j) in
    carries_most (le_of_eq (range_sum-mul t (2 ^ w - 1) (λ j. norm q (e j))))
    (carries_same
    (carries_total t (λ j. ring_mul q N (digits j) (a j)) (λ j. ring_mul q N (digits j) (b j)) (λ j. product_at N (at (digits j)) (λ i. pos (2 ^ (w * j)) *ℤ f i)) bound some
    (λ j h. carries_mul (2 ^ w - 1) (digits j) some (digits_small q w j x) (noisy j h)))
    (λ k h. congruent_equal (digits_gather N w t x f k below)))
