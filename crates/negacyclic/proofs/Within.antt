-- Whole numbers that differ modulo q by an error of bounded size. The error is in the record, so that sums of many need no choice.
-- Residues and their centred representatives come in by `within_small` and `within_centred` and go out by `small_from_stands`.
use Rattle.std.proofs.Common.{ℕ, zero, suc, ◌+◌, ◌*◌, ◌<◌, ◌≤◌, ℤ, pos, ◌+ℤ◌, ◌-ℤ◌, ◌*ℤ◌, neg_ℤ, unsigned_abs, List, All, sum_by, sym, arith, le_trans, le_refl, le_of_eq, mul-le-mul_left}
use Rattle.std.specs.List.{range_with_len}
use Rattle.std.proofs.lemmas.Int.{ints, unsigned_abs-mul}
use Rattle.std.proofs.lemmas.List.Elements.{All-get_or}
use Rattle.negacyclic.specs.Sums.{total}
use Rattle.negacyclic.specs.Residues.{residue, cen}
use Rattle.negacyclic.specs.Ring.{at, ring_sub}
use Rattle.negacyclic.proofs.Integers.{mul-add_ℤ}
use Rattle.negacyclic.proofs.Congruence.{Congruent, congruent_equal, congruent_refl, congruent_sym, congruent_trans, congruent_neg, congruent_add, congruent_sub, congruent_times}
use Rattle.negacyclic.proofs.Residues.{unsigned_abs-add, unsigned_abs-neg, cen_least, residue-below, residue_congruent}
use Rattle.negacyclic.proofs.RangeSums.{range_sum-suc, range_sum-constant}
use Rattle.negacyclic.proofs.Stands.{Follows, Stands, sub_of}
use Rattle.negacyclic.proofs.Bounds.{centred, follows_centred, centred_below, all_from_centred}

-- Modulo q, x is y and an error of at most m.
pub record Within (q m : ℕ) (x y : ℤ) : Type 0 where
  pub error : ℤ
  pub small : unsigned_abs error ≤ m
  pub differs : Congruent q x (y +ℤ error)

module _ {q : ℕ} where
  -- an error with its bound
  pub within_by : {m : ℕ} {x y : ℤ} (error : ℤ) → unsigned_abs error ≤ m → Congruent q x (y +ℤ error) → Within q m x y
  within_by error small differs = record { error = error; small = small; differs = differs }

  -- congruent numbers
  pub within_exact : {x y : ℤ} → Congruent q x y → Within q 0 x y
  within_exact {x} {y} h =
      within_by (pos 0) (le_refl 0) (congruent_trans h (congruent_equal (omega (arith, ints))))

  -- each number and itself
  pub within_refl : (x : ℤ) → Within q 0 x x
  within_refl x = within_exact (congruent_refl x)

  -- a weaker bound
  pub within_most : {m n : ℕ} {x y : ℤ} → m ≤ n → Within q m x y → Within q n x y
  within_most weaker h = within_by h.error (le_trans h.small weaker) h.differs

  -- congruent sides
  pub within_same : {m : ℕ} {x y u v : ℤ} → Congruent q u x → Congruent q y v → Within q m x y → Within q m u v
  within_same left right h =
      within_by h.error h.small (congruent_trans left (congruent_trans h.differs (congruent_add right (congruent_refl h.error))))

  -- the other way round
  pub within_sym : {m : ℕ} {x y : ℤ} → Within q m x y → Within q m y x
  within_sym {m} {x} {y} h =
      let size : unsigned_abs (neg_ℤ h.error) ≤ m = rw unsigned_abs-neg h.small in
      within_by (neg_ℤ h.error) size (back x y h.error h.differs)
    where
      back : (x y e : ℤ) → Congruent q x (y +ℤ e) → Congruent q y (x +ℤ neg_ℤ e)
      back x y e h =
          congruent_trans (congruent_equal (omega (arith, ints))) (congruent_add (congruent_sym h) (congruent_refl (neg_ℤ e)))

  -- one after the other
  pub within_trans : {m n : ℕ} {x y z : ℤ} → Within q m x y → Within q n y z → Within q (m + n) x z
  within_trans {m} {n} {x} {y} {z} h k =
      let size : unsigned_abs (k.error +ℤ h.error) ≤ m + n = omega (arith, unsigned_abs-add k.error h.error, h.small, k.small) in
      within_by (k.error +ℤ h.error) size
      (congruent_trans h.differs (congruent_trans (congruent_add k.differs (congruent_refl h.error)) (congruent_equal (omega (arith, ints)))))

  -- the opposite numbers
  pub within_neg : {m : ℕ} {x y : ℤ} → Within q m x y → Within q m (neg_ℤ x) (neg_ℤ y)
  within_neg {m} {x} {y} h =
      let size : unsigned_abs (neg_ℤ h.error) ≤ m = rw unsigned_abs-neg h.small in
      within_by (neg_ℤ h.error) size (congruent_trans (congruent_neg h.differs) (congruent_equal (omega (arith, ints))))

  -- sums
  pub within_add : {m n : ℕ} {x y u v : ℤ} → Within q m x y → Within q n u v → Within q (m + n) (x +ℤ u) (y +ℤ v)
  within_add {m} {n} {x} {y} {u} {v} h k =
      let size : unsigned_abs (h.error +ℤ k.error) ≤ m + n = omega (arith, unsigned_abs-add h.error k.error, h.small, k.small) in
      within_by (h.error +ℤ k.error) size (congruent_trans (congruent_add h.differs k.differs) (congruent_equal (omega (arith, ints))))

  -- differences
  pub within_sub : {m n : ℕ} {x y u v : ℤ} → Within q m x y → Within q n u v → Within q (m + n) (x -ℤ u) (y -ℤ v)
  within_sub h k = within_add h (within_neg k)

  -- multiples
  pub within_scale : {m : ℕ} {x y : ℤ} (z : ℤ) → Within q m x y → Within q (unsigned_abs z * m) (z *ℤ x) (z *ℤ y)
  within_scale {m} {x} {y} z h =
      let size : unsigned_abs (z *ℤ h.error) ≤ unsigned_abs z * m = rw unsigned_abs-mul (mul-le-mul_left (unsigned_abs z) h.small) in
      within_by (z *ℤ h.error) size (congruent_trans (congruent_times z h.differs) (congruent_equal (mul-add_ℤ z y h.error)))

  -- sums of many: the bound is the sum of the bounds
  pub within_total : (n : ℕ) (m : ℕ → ℕ) (f g : ℕ → ℤ) → ((i : ℕ) → i < n → Within q (m i) (f i) (g i))
      → Within q (sum_by m (range_with_len 0 n)) (total n f) (total n g)
  unfolding total
  within_total zero m f g each = within_refl (pos 0)
  within_total (suc n) m f g each =
      within_most (le_of_eq (sym (range_sum-suc n m)))
      (within_add (within_total n m f g (λ i h. each i (omega arith))) (each n (omega arith)))

  -- with one bound for all
  pub within_total_each : (n m : ℕ) (f g : ℕ → ℤ) → ((i : ℕ) → i < n → Within q m (f i) (g i)) → Within q (n * m) (total n f) (total n g)
  within_total_each n m f g each =
      within_most (le_of_eq (range_sum-constant n m)) (within_total n (λ i. m) f g each)

  -- ---- numbers near 0, and differences

  -- a difference near 0
  pub within_from_zero : {m : ℕ} (x y : ℤ) → Within q m (x -ℤ y) (pos 0) → Within q m x y
  within_from_zero x y h =
      within_by h.error h.small
      (congruent_trans (congruent_equal (omega (arith, ints))) (congruent_trans (congruent_add h.differs (congruent_refl y)) (congruent_equal (omega (arith, ints)))))

  pub within_to_zero : {m : ℕ} (x y : ℤ) → Within q m x y → Within q m (x -ℤ y) (pos 0)
  within_to_zero x y h =
      within_by h.error h.small (congruent_trans (congruent_sub h.differs (congruent_refl y)) (congruent_equal (omega (arith, ints))))

  -- The centred representative of a residue near 0 is no larger than the bound,
  pub cen_within : {m x : ℕ} → x < q → Within q m (pos x) (pos 0) → unsigned_abs (cen q x) ≤ m
  cen_within {m} {x} below h =
      let near : Congruent q (pos x) h.error = congruent_trans h.differs (congruent_equal (omega (arith, ints))) in
      le_trans (cen_least below (congruent_sym near)) h.small

  -- and so is that of the residue of a number near 0.
  pub cen_residue_within : {m : ℕ} (z : ℤ) → 0 < q → Within q m z (pos 0) → unsigned_abs (cen q (residue q z)) ≤ m
  cen_residue_within z some h = cen_within (residue-below q z some) (within_same (residue_congruent q z some) (congruent_refl (pos 0)) h)

-- ---- lists of residues

module _ {q N : ℕ} where
  -- what a list follows is within the size of its centred coefficient,
  pub within_centred : {a : List ℕ} {f : ℕ → ℤ} (k : ℕ) → Follows q N a f → k < N → Within q (unsigned_abs (centred q a k)) (f k) (pos 0)
  within_centred {a} {f} k follows h =
      within_by (centred q a k) (le_refl (unsigned_abs (centred q a k)))
      (congruent_trans (congruent_sym (follows.place k h)) (congruent_trans ((follows_centred q N a).place k h) (congruent_equal (omega (arith, ints)))))

  -- and so within a bound of all of them.
  pub within_small : {m : ℕ} {a : List ℕ} {f : ℕ → ℤ} (k : ℕ) → Follows q N a f → All (λ x. unsigned_abs (cen q x) ≤ m) a → k < N → Within q m (f k) (pos 0)
  within_small {m} {a} k follows all h = within_most (centred_below q m a k all) (within_centred k follows h)

  -- A list that stands for numbers near 0 has small centred representatives.
  pub small_from_stands : {m : ℕ} {a : List ℕ} {f : ℕ → ℤ} → Stands q N a f → ((k : ℕ) → k < N → Within q m (f k) (pos 0)) → All (λ x. unsigned_abs (cen q x) ≤ m) a
  unfolding at centred
  small_from_stands {m} {a} {f} stands near =
      all_from_centred q m a
      (λ k lt.
      let h : k < N = omega (arith, stands.size) in
      cen_within (All-get_or (λ x. x < q) a k 0 lt stands.below) (within_same (stands.follows.place k h) (congruent_refl (pos 0)) (near k h)))

  -- Two polynomials whose difference has small centred representatives follow numbers near one another,
  pub within_difference : {m : ℕ} {a b : List ℕ} {f g : ℕ → ℤ} (k : ℕ) → 0 < q → Follows q N a f → Follows q N b g
      → All (λ x. unsigned_abs (cen q x) ≤ m) (ring_sub q N a b) → k < N → Within q m (f k) (g k)
  within_difference {m} {a} {b} {f} {g} k some left right all h = within_from_zero (f k) (g k) (within_small k (sub_of some left right).follows all h)

  -- and the other way round.
  pub small_difference : {m : ℕ} {a b : List ℕ} {f g : ℕ → ℤ} → 0 < q → Follows q N a f → Follows q N b g → ((k : ℕ) → k < N → Within q m (f k) (g k))
      → All (λ x. unsigned_abs (cen q x) ≤ m) (ring_sub q N a b)
  small_difference {m} {a} {b} {f} {g} some left right near = small_from_stands (sub_of some left right) (λ k h. within_to_zero (f k) (g k) (near k h))
