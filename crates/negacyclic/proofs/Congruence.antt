-- Congruence of whole numbers modulo q.
use Rattle.std.proofs.Common.{◌≡◌, ℕ, zero, suc, ◌<◌, ℤ, pos, ◌+ℤ◌, ◌-ℤ◌, ◌*ℤ◌, neg_ℤ, refl, ◌∙◌, ap₂, arith}
use Rattle.std.proofs.lemmas.Int.{ints}
use Rattle.negacyclic.specs.Sums.{total}
use Rattle.negacyclic.proofs.Integers.{ring}

-- x and y differ by a multiple of q
pub record Congruent (q : ℕ) (x y : ℤ) : Type 0 where
  pub times : ℤ
  pub differ : x ≡ y +ℤ times *ℤ pos q

module _ {q : ℕ} where
  -- equal numbers
  pub congruent_equal : {x y : ℤ} → x ≡ y → Congruent q x y
  congruent_equal {x} {y} e = record { times = pos 0; differ = simp ring (omega (arith, ints)) }

  -- each number and itself
  pub congruent_refl : (x : ℤ) → Congruent q x x
  congruent_refl x = congruent_equal refl

  -- the other way round
  pub congruent_sym : {x y : ℤ} → Congruent q x y → Congruent q y x
  congruent_sym {x} {y} h =
      let e : x ≡ y +ℤ h.times *ℤ pos q = h.differ in record { times = neg_ℤ h.times; differ = simp ring (omega (arith, ints)) }

  -- one after the other
  pub congruent_trans : {x y z : ℤ} → Congruent q x y → Congruent q y z → Congruent q x z
  congruent_trans {x} {y} {z} h k =
      let e : x ≡ y +ℤ h.times *ℤ pos q = h.differ in
      let f : y ≡ z +ℤ k.times *ℤ pos q = k.differ in record { times = h.times +ℤ k.times; differ = simp ring (omega (arith, ints)) }

  -- the opposite numbers
  pub congruent_neg : {x y : ℤ} → Congruent q x y → Congruent q (neg_ℤ x) (neg_ℤ y)
  congruent_neg {x} {y} h =
      let e : x ≡ y +ℤ h.times *ℤ pos q = h.differ in record { times = neg_ℤ h.times; differ = simp ring (omega (arith, ints)) }

  -- sums
  pub congruent_add : {x y u v : ℤ} → Congruent q x y → Congruent q u v → Congruent q (x +ℤ u) (y +ℤ v)
  congruent_add {x} {y} {u} {v} h k =
      let e : x ≡ y +ℤ h.times *ℤ pos q = h.differ in
      let f : u ≡ v +ℤ k.times *ℤ pos q = k.differ in record { times = h.times +ℤ k.times; differ = simp ring (omega (arith, ints)) }

  -- differences
  pub congruent_sub : {x y u v : ℤ} → Congruent q x y → Congruent q u v → Congruent q (x -ℤ u) (y -ℤ v)
  congruent_sub h k = congruent_add h (congruent_neg k)

  -- products
  pub congruent_mul : {x y u v : ℤ} → Congruent q x y → Congruent q u v → Congruent q (x *ℤ u) (y *ℤ v)
  congruent_mul {x} {y} {u} {v} h k =
      record {
        times = y *ℤ k.times +ℤ h.times *ℤ v +ℤ h.times *ℤ k.times *ℤ pos q;
        differ = ap₂ (λ (a b : ℤ). a *ℤ b) h.differ k.differ ∙ product (h.times) (k.times) y v (pos q);
      }
    where
      product : (s t y v p : ℤ) → (y +ℤ s *ℤ p) *ℤ (v +ℤ t *ℤ p) ≡ y *ℤ v +ℤ (y *ℤ t +ℤ s *ℤ v +ℤ s *ℤ t *ℤ p) *ℤ p
      product s t y v p = simp ring (omega (arith, ints))

  -- a factor on the left
  pub congruent_times : {x y : ℤ} (z : ℤ) → Congruent q x y → Congruent q (z *ℤ x) (z *ℤ y)
  congruent_times z h = congruent_mul (congruent_refl z) h

  -- sums of congruent terms
  pub congruent_total : (n : ℕ) (f g : ℕ → ℤ) → ((i : ℕ) → i < n → Congruent q (f i) (g i)) → Congruent q (total n f) (total n g)
  unfolding total
  congruent_total zero f g all = congruent_refl (pos 0)
  congruent_total (suc n) f g all = congruent_add (congruent_total n f g (λ i h. all i (omega arith))) (all n (omega arith))
