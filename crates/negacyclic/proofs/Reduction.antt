-- The residues of sums, differences and opposites of residues as one conditional step, and lists of residues from their places.
use Rattle.std.proofs.Common.{◌≡◌, ℕ, ◌+◌, ◌-◌, ◌*◌, ◌/◌, ◌%◌, ◌<◌, ◌≤◌, ℤ, pos, negsuc, ◌+ℤ◌, ◌-ℤ◌, ◌*ℤ◌, neg_ℤ, unsigned_abs, List, [], length, take, get_or, All, refl, ap, arith, inl, inr}
use Rattle.std.proofs.lemmas.Int.{ints, int_rem_euclid_is}
use Rattle.std.proofs.lemmas.Bool.{cases_lt}
use Rattle.std.proofs.lemmas.List.Sums.{sum_by_more}
use Rattle.std.proofs.lemmas.List.Elements.{All-from_get_or}
use Rattle.std.proofs.lemmas.List.FromFn.{get_or-map-range_with_len, fill_by_all}
use Rattle.negacyclic.specs.Residues.{residue, cen, norm}
use Rattle.negacyclic.specs.Ring.{at, reduced, ring_scale}
use Rattle.negacyclic.proofs.Congruence.{congruent_equal, congruent_mul, congruent_refl}
use Rattle.negacyclic.proofs.Residues.{residue-below, residue_congruent, residue_is, cen_low, cen_high, cen_half}
use Rattle.negacyclic.proofs.Stands.{follows_at, stands_congruent, stands_same, scale_of}

-- the residue of a natural less a multiple of q
pub residue_less_multiple : (q k m : ℕ) (z : ℤ) → 0 < q → z +ℤ pos (k * q) ≡ pos m → residue q z ≡ m % q
unfolding residue
residue_less_multiple q k m z some e = ap unsigned_abs (int_rem_euclid_is z (pos q) q k m some refl e)

-- a sum of two residues
pub residue_sum_low : (q x y : ℕ) → x + y < q → residue q (pos x +ℤ pos y) ≡ x + y
residue_sum_low q x y h = residue_is (omega arith) h (congruent_equal (omega (arith, ints)))

pub residue_sum_high : (q x y : ℕ) → x < q → y < q → q ≤ x + y → residue q (pos x +ℤ pos y) ≡ x + y - q
residue_sum_high q x y hx hy h =
    residue_is (omega arith) (omega arith) (record { times = negsuc 0; differ = omega (arith, ints) })

-- a difference of two residues
pub residue_difference_low : (q x y : ℕ) → y < q → x < y → residue q (pos x -ℤ pos y) ≡ x + q - y
residue_difference_low q x y hy h =
    residue_is (omega arith) (omega arith) (record { times = pos 1; differ = omega (arith, ints) })

pub residue_difference_high : (q x y : ℕ) → x < q → y ≤ x → residue q (pos x -ℤ pos y) ≡ x - y
residue_difference_high q x y hx h = residue_is (omega arith) (omega arith) (congruent_equal (omega (arith, ints)))

-- the opposite of a residue
pub residue_negated_zero : (q x : ℕ) → 0 < q → x ≡ 0 → residue q (neg_ℤ (pos x)) ≡ 0
residue_negated_zero q x some e = residue_is some some (congruent_equal (omega (arith, ints)))

pub residue_negated : (q x : ℕ) → 0 < x → x < q → residue q (neg_ℤ (pos x)) ≡ q - x
residue_negated q x some h =
    residue_is (omega arith) (omega arith) (record { times = pos 1; differ = omega (arith, ints) })

-- the product of two residues
pub residue_product : (q x y : ℕ) → residue q (pos x *ℤ pos y) ≡ x * y % q
unfolding residue
residue_product q x y = refl

-- The absolute value of the centred representative.
pub centred_low : (q x : ℕ) → x ≤ (q - 1) / 2 → unsigned_abs (cen q x) ≡ x
centred_low q x h = ap unsigned_abs (cen_low q x h)

pub centred_high : (q x : ℕ) → x < q → (q - 1) / 2 < x → unsigned_abs (cen q x) ≡ q - x
centred_high q x below h = let e = cen_high q x h in omega (arith, ints)

-- It is at most the number,
pub cen_at_most : (q x : ℕ) → unsigned_abs (cen q x) ≤ x
cen_at_most q x =
    elim (cases_lt ((q - 1) / 2) x) [
      | inl high ↦ let e = cen_high q x high in omega (arith, ints)
      | inr low ↦ let e = cen_low q x low in omega (arith, ints)
    ]

-- and at most half of q, rounded down.
pub cen_at_most_half : (q x : ℕ) → x < q → unsigned_abs (cen q x) ≤ q / 2
cen_at_most_half q x h = omega (arith, cen_half q x h)

-- the norm of no coefficients, and of one more
pub norm_none : (q : ℕ) → norm q [] ≡ 0
unfolding norm
norm_none q = refl

pub norm_more : (q : ℕ) (xs : List ℕ) (i : ℕ) → i < length xs
    → norm q (take (i + 1) xs) ≡ norm q (take i xs) + unsigned_abs (cen q (get_or xs i 0))
unfolding norm
norm_more q xs i h = sum_by_more (λ x. unsigned_abs (cen q x)) xs i 0 h

-- The list with these places is the list of residues of f.
pub reduced_from_places : (q N : ℕ) (f : ℕ → ℤ) (xs : List ℕ) → length xs ≡ N → ((k : ℕ) → k < N → get_or xs k 0 ≡ residue q (f k)) → xs ≡ reduced q N f
unfolding reduced
reduced_from_places q N f xs e places = fill_by_all (λ k. residue q (f k)) xs N 0 e places

-- Its elements are below q.
pub below_from_places : (q N : ℕ) (f : ℕ → ℤ) (xs : List ℕ) → 0 < q → length xs ≡ N → ((k : ℕ) → k < N → get_or xs k 0 ≡ residue q (f k)) → All (λ x. x < q) xs
below_from_places q N f xs some e places =
    All-from_get_or (λ x. x < q) xs 0 (λ k h. rw (places k (omega arith)) (residue-below q (f k) some))

-- a place of the list of residues of f
pub get_or-reduced : (q N : ℕ) (f : ℕ → ℤ) (k : ℕ) → k < N → get_or (reduced q N f) k 0 ≡ residue q (f k)
unfolding reduced
get_or-reduced q N f k h = get_or-map-range_with_len (λ i. residue q (f i)) 0 N k k 0 h (omega arith)

-- A multiple is the same by the residue of a number as by the number.
pub scale_residue : (q N z : ℕ) (y : ℤ) (a : List ℕ) → 0 < q → z ≡ residue q y → ring_scale q N (pos z) a ≡ ring_scale q N y a
scale_residue q N z y a some is =
    rw is
    (stands_same
    (stands_congruent (scale_of some (pos (residue q y)) (follows_at q N a)) (λ k h. congruent_mul (residue_congruent q y some) (congruent_refl (at a k))))
    (scale_of some y (follows_at q N a)) (λ k h. refl))
