-- Laws of residues, and of the centred representative, which is the least number of its class.
use Rattle.std.proofs.Common.{◌≡◌, ℕ, zero, suc, ◌+◌, ◌-◌, ◌*◌, ◌/◌, ◌%◌, ◌<◌, ◌≤◌, ℤ, pos, negsuc, ◌+ℤ◌, ◌-ℤ◌, ◌*ℤ◌, neg_ℤ, unsigned_abs, refl, ap, arith, mod-lt, zero-le, le-leb, inl, inr}
use Rattle.std.proofs.Math.Nat.{div-add-mod'}
use borrow.Author.Tests.{lt-leb}
use Rattle.std.proofs.lemmas.Bool.{cases_lt}
use Rattle.std.proofs.lemmas.Int.{ints, unsigned_abs-mul}
use Rattle.negacyclic.specs.Residues.{residue, cen}
use Rattle.negacyclic.proofs.Integers.{neg-mul_ℤ}
use Rattle.negacyclic.proofs.Congruence.{Congruent, congruent_equal, congruent_refl, congruent_sym, congruent_trans, congruent_add, congruent_times}

-- ---- residues

-- a residue is below its modulus
pub residue-below : (q : ℕ) (z : ℤ) → 0 < q → residue q z < q
unfolding residue
residue-below q (pos a) some = mod-lt a some
residue-below q (negsuc a) some = omega arith

-- and congruent to the number
pub residue_congruent : (q : ℕ) (z : ℤ) → 0 < q → Congruent q (pos (residue q z)) z
unfolding residue
residue_congruent q (pos a) some =
    let e = neg-mul_ℤ (pos (a / q)) (pos q) in
    let split = div-add-mod' a q in record { times = neg_ℤ (pos (a / q)); differ = omega (arith, ints) }
residue_congruent q (negsuc a) some =
    let split = div-add-mod' a q in
    let small = mod-lt a some in record { times = pos (a / q + 1); differ = omega (arith, ints) }

apart : (q r s : ℕ) (t : ℤ) → r < q → s < q → pos r ≡ pos s +ℤ t *ℤ pos q → r ≡ s
apart q r s (pos zero) hr hs e = omega (arith, ints)
apart q r s (pos (suc n)) hr hs e = absurd (omega (arith, ints))
apart q r s (negsuc n) hr hs e = absurd (omega (arith, ints))

-- congruent residues are equal
pub same_from_congruent : {q r s : ℕ} → r < q → s < q → Congruent q (pos r) (pos s) → r ≡ s
same_from_congruent {q} {r} {s} hr hs h = apart q r s h.times hr hs h.differ

-- congruent numbers have one residue
pub residue_same : {q : ℕ} {x y : ℤ} → 0 < q → Congruent q x y → residue q x ≡ residue q y
residue_same {q} {x} {y} some h =
    same_from_congruent (residue-below q x some) (residue-below q y some)
    (congruent_trans (residue_congruent q x some) (congruent_trans h (congruent_sym (residue_congruent q y some))))

-- and numbers with one residue are congruent
pub congruent_from_residue : {q : ℕ} (x y : ℤ) → 0 < q → residue q x ≡ residue q y → Congruent q x y
congruent_from_residue {q} x y some e =
    congruent_trans (congruent_sym (residue_congruent q x some))
    (congruent_trans (congruent_equal (ap pos e)) (residue_congruent q y some))

-- the residue that is congruent to a number is its residue
pub residue_is : {q r : ℕ} {z : ℤ} → 0 < q → r < q → Congruent q (pos r) z → residue q z ≡ r
residue_is {q} {r} {z} some h k =
    same_from_congruent (residue-below q z some) h (congruent_trans (residue_congruent q z some) (congruent_sym k))

-- a residue is its own residue
pub residue_of_residue : {q r : ℕ} → r < q → residue q (pos r) ≡ r
residue_of_residue {q} {r} h = residue_is (omega arith) h (congruent_refl (pos r))

-- ---- absolute values

-- the absolute value of a sum
pub unsigned_abs-add : (x y : ℤ) → unsigned_abs (x +ℤ y) ≤ unsigned_abs x + unsigned_abs y
unsigned_abs-add x y = omega (arith, ints)

-- of a difference
pub unsigned_abs-sub : (x y : ℤ) → unsigned_abs (x -ℤ y) ≤ unsigned_abs x + unsigned_abs y
unsigned_abs-sub x y = omega (arith, ints)

-- of the opposite number
pub unsigned_abs-neg : (x : ℤ) → unsigned_abs (neg_ℤ x) ≡ unsigned_abs x
unsigned_abs-neg x = omega (arith, ints)

-- ---- the centred representative

-- of a residue up to half of q
pub cen_low : (q x : ℕ) → x ≤ (q - 1) / 2 → cen q x ≡ pos x
unfolding cen
cen_low q x h = rw (le-leb x ((q - 1) / 2) h) refl

-- of a larger one
pub cen_high : (q x : ℕ) → (q - 1) / 2 < x → cen q x ≡ pos x -ℤ pos q
unfolding cen
cen_high q x h = rw (lt-leb x ((q - 1) / 2) h) refl

-- of 0
pub cen_zero : (q : ℕ) → cen q 0 ≡ pos 0
cen_zero q = cen_low q 0 zero-le

-- it is congruent to its residue
pub cen_congruent : (q x : ℕ) → Congruent q (cen q x) (pos x)
cen_congruent q x =
    elim (cases_lt ((q - 1) / 2) x) [
      | inl high ↦ let e = cen_high q x high in record { times = negsuc 0; differ = omega (arith, ints) }
      | inr low ↦ congruent_equal (cen_low q x low)
    ]

-- and at most half of q
pub cen_half : (q x : ℕ) → x < q → 2 * unsigned_abs (cen q x) ≤ q
cen_half q x h =
    elim (cases_lt ((q - 1) / 2) x) [
      | inl high ↦ let e = cen_high q x high in omega (arith, ints)
      | inr low ↦ let e = cen_low q x low in omega (arith, ints)
    ]

-- less than half of an odd q
pub cen_half_odd : (q x : ℕ) → q % 2 ≡ 1 → x < q → 2 * unsigned_abs (cen q x) < q
cen_half_odd q x odd h =
    elim (cases_lt ((q - 1) / 2) x) [
      | inl high ↦ let e = cen_high q x high in omega (arith, ints)
      | inr low ↦ let e = cen_low q x low in omega (arith, ints)
    ]

least : (q : ℕ) (c z t : ℤ) → 2 * unsigned_abs c ≤ q → z ≡ c +ℤ t *ℤ pos q → unsigned_abs c ≤ unsigned_abs z
least q c z (pos zero) half e = omega (arith, ints)
least q c z (pos (suc n)) half e = omega (arith, ints)
least q c z (negsuc n) half e = omega (arith, ints)

only : (q : ℕ) (c z t : ℤ) → 2 * unsigned_abs c ≤ q → 2 * unsigned_abs z < q → z ≡ c +ℤ t *ℤ pos q → c ≡ z
only q c z (pos zero) half small e = omega (arith, ints)
only q c z (pos (suc n)) half small e = absurd (omega (arith, ints))
only q c z (negsuc n) half small e = absurd (omega (arith, ints))

-- No congruent number is smaller in absolute value.
pub cen_least : {q x : ℕ} {z : ℤ} → x < q → Congruent q z (pos x) → unsigned_abs (cen q x) ≤ unsigned_abs z
cen_least {q} {x} {z} h k =
    let c : Congruent q z (cen q x) = congruent_trans k (congruent_sym (cen_congruent q x)) in
    least q (cen q x) z c.times (cen_half q x h) c.differ

-- A congruent number less than half of q is the centred representative.
pub cen_only : {q x : ℕ} {z : ℤ} → x < q → Congruent q z (pos x) → 2 * unsigned_abs z < q → cen q x ≡ z
cen_only {q} {x} {z} h k small =
    let c : Congruent q z (cen q x) = congruent_trans k (congruent_sym (cen_congruent q x)) in
    only q (cen q x) z c.times (cen_half q x h) small c.differ

-- The centred representative of a whole number's residue is congruent to the number,
pub cen_residue_congruent : (q : ℕ) (z : ℤ) → 0 < q → Congruent q (cen q (residue q z)) z
cen_residue_congruent q z some = congruent_trans (cen_congruent q (residue q z)) (residue_congruent q z some)

-- no larger than any congruent number,
pub cen_residue_least : {q : ℕ} {y z : ℤ} → 0 < q → Congruent q z y → unsigned_abs (cen q (residue q y)) ≤ unsigned_abs z
cen_residue_least {q} {y} {z} some h =
    cen_least (residue-below q y some) (congruent_trans h (congruent_sym (residue_congruent q y some)))

-- and so no larger than the number.
pub cen_residue-le : (q : ℕ) (z : ℤ) → 0 < q → unsigned_abs (cen q (residue q z)) ≤ unsigned_abs z
cen_residue-le q z some = cen_residue_least some (congruent_refl z)

-- It is the number where this is less than half of q.
pub cen_residue : (q : ℕ) (z : ℤ) → 2 * unsigned_abs z < q → cen q (residue q z) ≡ z
cen_residue q z small =
    cen_only (residue-below q z (omega arith)) (congruent_sym (residue_congruent q z (omega arith))) small

-- the triangle law
pub cen_residue_add : (q : ℕ) (x y : ℤ) → 0 < q → unsigned_abs (cen q (residue q (x +ℤ y))) ≤ unsigned_abs x + unsigned_abs y
cen_residue_add q x y some = omega (arith, cen_residue-le q (x +ℤ y) some, unsigned_abs-add x y)

-- and for residues
pub cen_residue_add_residues : (q x y : ℕ) → 0 < q
    → unsigned_abs (cen q (residue q (pos x +ℤ pos y))) ≤ unsigned_abs (cen q x) + unsigned_abs (cen q y)
cen_residue_add_residues q x y some =
    let c : unsigned_abs (cen q (residue q (pos x +ℤ pos y))) ≤ unsigned_abs (cen q x +ℤ cen q y) = cen_residue_least some (congruent_add (cen_congruent q x) (cen_congruent q y)) in
    omega (arith, unsigned_abs-add (cen q x) (cen q y))

-- the law of multiples
pub cen_residue_mul : (q : ℕ) (z : ℤ) (x : ℕ) → 0 < q
    → unsigned_abs (cen q (residue q (z *ℤ pos x))) ≤ unsigned_abs z * unsigned_abs (cen q x)
cen_residue_mul q z x some =
    let c : unsigned_abs (cen q (residue q (z *ℤ pos x))) ≤ unsigned_abs (z *ℤ cen q x) = cen_residue_least some (congruent_times z (cen_congruent q x)) in
    rw unsigned_abs-mul at c

-- ---- the same, where residues tell that numbers are congruent

-- The centred representative has the residue that it represents.
pub residue_cen : (q : ℕ) (z : ℤ) → 0 < q → residue q (cen q (residue q z)) ≡ residue q z
residue_cen q z some = residue_same some (cen_residue_congruent q z some)

-- No number with this residue is smaller in absolute value.
pub cen_smallest : (q : ℕ) (y z : ℤ) → 0 < q → residue q y ≡ residue q z → unsigned_abs (cen q (residue q z)) ≤ unsigned_abs y
cen_smallest q y z some e = cen_residue_least some (congruent_from_residue y z some e)
