-- Signed numbers as code computes them: the residues of small numbers, words that hold a number as it is, and rounding.
use Rattle.std.proofs.Common.{◌≡◌, ℕ, ◌+◌, ◌-◌, ◌*◌, ◌/◌, ◌%◌, ◌^◌, ◌<◌, ◌≤◌, ltb, if◌then◌else◌, ℤ, pos, negsuc, ◌+ℤ◌, ◌-ℤ◌, ◌*ℤ◌, neg_ℤ, ◌<ℤ◌, ◌≤ℤ◌, unsigned_abs, sym, ◌∙◌, ap, arith, mod-eq_of_lt, lt-ltb, le-ltb, to_z, of_z, w64, SFits}
use mir.Syntax.{Width, w128}
use mir.Val.{hbits}
use Rattle.std.specs.Int.{int_div_euclid, int_rem_euclid}
use Rattle.std.proofs.lemmas.Int.{ints, to_z-of_z, fits_signed_from_abs}
use Rattle.negacyclic.specs.Residues.{residue, nearest, floor_div}
use Rattle.negacyclic.proofs.Residues.{residue_of_residue}
use Rattle.negacyclic.proofs.Reduction.{residue_difference_low, residue_negated}

-- ---- residues of small numbers

-- of a number below 0, and of one from 0 on
pub residue_negative : (q n : ℕ) (z : ℤ) → z <ℤ pos 0 → n ≡ unsigned_abs z → n < q → q - n ≡ residue q z
unfolding residue
residue_negative q n (pos a) below e small = absurd (omega (arith, ints))
residue_negative q n (negsuc a) below e small =
    let within : a < q = omega arith in
    let same : a % q ≡ a = mod-eq_of_lt within in rw same (omega arith)

pub residue_plain : (q n : ℕ) (z : ℤ) → pos 0 ≤ℤ z → n ≡ unsigned_abs z → n < q → n ≡ residue q z
unfolding residue
residue_plain q n (pos a) from e small = rw e (sym (mod-eq_of_lt (rw e at small)))
residue_plain q n (negsuc a) from e small = absurd (omega (arith, ints))

-- of -x, for x above 0 and for 0
pub negative_some : (q x : ℕ) → 0 < x → x < q → q - x ≡ residue q (neg_ℤ (pos x))
negative_some q x some below = sym (residue_negated q x some below)

pub negative_none : (q x : ℕ) → 0 < q → x ≡ 0 → 0 ≡ residue q (neg_ℤ (pos x))
negative_none q x some none = rw none (sym (residue_of_residue some))

-- of a value modulo p, taken around 0: a value below p / 2 as it is, another less p
pub value_low : (q p v : ℕ) → v < q → v < p / 2 → v ≡ residue q (if ltb v (p / 2) then pos v else pos v -ℤ pos p)
value_low q p v below low = rw (lt-ltb v (p / 2) low) (sym (residue_of_residue {q = q} {r = v} below))

pub value_high : (q p v : ℕ) → p < q → v < p → p / 2 ≤ v → q - (p - v) ≡ residue q (if ltb v (p / 2) then pos v else pos v -ℤ pos p)
value_high q p v less below high =
    let here : q - (p - v) ≡ v + q - p = omega arith in
    rw (le-ltb v (p / 2) high) (here ∙ sym (residue_difference_low q v p less below))

-- ---- signed words

-- a number that is small enough stays as it is in a signed word of any width,
pub kept : (w : Width) (z : ℤ) → unsigned_abs z < 2 ^ hbits w → to_z w (of_z w z) ≡ z
kept w z small = to_z-of_z w z (fits_signed_from_abs w z small)

-- in an i64 and in an i128
pub kept_64 : (z : ℤ) → unsigned_abs z < 2 ^ 63 → to_z w64 (of_z w64 z) ≡ z
kept_64 z small = kept w64 z small

pub kept_128 : (z : ℤ) → unsigned_abs z < 2 ^ 127 → to_z w128 (of_z w128 z) ≡ z
kept_128 z small = kept w128 z small

-- The residue of z / d, rounded to the nearest, as an i128 works it out.
pub nearest_is : (z wide rounded modular out : ℤ) (d modulus : ℕ) → unsigned_abs z ≤ 2 ^ 100 → d < 2 ^ 64 → modulus < 2 ^ 64
    → SFits w128 rounded → SFits w128 out → wide ≡ pos d → modular ≡ pos modulus
    → rounded ≡ int_div_euclid (to_z w128 (of_z w128 (to_z w128 (of_z w128 (pos 2 *ℤ to_z w128 (of_z w128 z))) +ℤ to_z w128 (of_z w128 wide)))) (to_z w128 (of_z w128 (pos 2 *ℤ to_z w128 (of_z w128 wide))))
    → out ≡ int_rem_euclid (to_z w128 (of_z w128 rounded)) (to_z w128 (of_z w128 modular))
    → unsigned_abs (to_z w128 (of_z w128 out)) ≡ residue modulus (nearest z d)
unfolding residue nearest floor_div
nearest_is z wide rounded modular out d modulus small d_small modulus_small fits out_fits wide_is modular_is rounded_is out_is =
    let e1 = kept_128 z (omega arith) in
    let e2 : to_z w128 (of_z w128 wide) ≡ pos d = ap (λ (y : ℤ). to_z w128 (of_z w128 y)) wide_is ∙ kept_128 (pos d) (omega arith) in
    let e3 = kept_128 (pos 2 *ℤ z) (omega (arith, ints)) in
    let e4 = kept_128 (pos 2 *ℤ z +ℤ pos d) (omega (arith, ints)) in
    let e5 : to_z w128 (of_z w128 (pos (2 * d))) ≡ pos (2 * d) = kept_128 (pos (2 * d)) (omega arith) in
    let e6 = to_z-of_z w128 rounded fits in
    let e7 : to_z w128 (of_z w128 modular) ≡ pos modulus = ap (λ (y : ℤ). to_z w128 (of_z w128 y)) modular_is ∙ kept_128 (pos modulus) (omega arith) in
    let e8 = to_z-of_z w128 out out_fits in
    let r : rounded ≡ int_div_euclid (pos 2 *ℤ z +ℤ pos d) (pos (2 * d)) = rw (e1, e2, e3, e4, e5) at rounded_is in
    let o : out ≡ int_rem_euclid rounded (pos modulus) = rw (e6, e7) at out_is in
    ap unsigned_abs (e8 ∙ o ∙ ap (λ (y : ℤ). int_rem_euclid y (pos modulus)) r)
