-- Chinese remainders: what two residues determine.
use Rattle.std.proofs.Common.{◌≡◌, ℕ, ◌+◌, ◌-◌, ◌*◌, ◌%◌, ◌<◌, ℤ, pos, ◌+ℤ◌, ◌-ℤ◌, ◌*ℤ◌, refl, ◌∙◌, ap, arith, sym, lit<}
use Rattle.std.proofs.lemmas.Int.{ints}
use Rattle.negacyclic.specs.Residues.{residue}
use Rattle.negacyclic.proofs.Integers.{ring}
use Rattle.negacyclic.proofs.Congruence.{Congruent}
use Rattle.spiral_sets.specs.Sets.{q}
use Rattle.negacyclic.proofs.Residues.{same_from_congruent, congruent_from_residue}

-- numbers that differ by a multiple of m and by one of n, where u m = v n + 1, differ by a multiple of m n
apart_by_both : (x y s t u v m n : ℤ) → u *ℤ m ≡ v *ℤ n +ℤ pos 1 → x ≡ y +ℤ s *ℤ m → x ≡ y +ℤ t *ℤ n
    → x ≡ y +ℤ (u *ℤ t -ℤ v *ℤ s) *ℤ (m *ℤ n)
apart_by_both x y s t u v m n one by_m by_n =
    let of_m : x -ℤ y ≡ s *ℤ m = omega (arith, ints) in
    let of_n : x -ℤ y ≡ t *ℤ n = omega (arith, ints) in
    let whole = simp ring at (ap (λ (z : ℤ). z *ℤ (x -ℤ y)) one) in
    let first = simp ring at (ap (λ (z : ℤ). u *ℤ m *ℤ z) of_n) in
    let second = simp ring at (ap (λ (z : ℤ). v *ℤ n *ℤ z) of_m) in
    simp ring (omega (arith, ints))

-- equal remainders are congruent numbers
remainders_congruent : (m x y : ℕ) → 0 < m → x % m ≡ y % m → Congruent m (pos x) (pos y)
unfolding residue
remainders_congruent m x y some e = congruent_from_residue (pos x) (pos y) some e

-- Where u m = v n + 1, a number below m n is determined by its remainders modulo m and n.
pub two_remainders : (m n u v x y : ℕ) → 0 < m → 0 < n → u * m ≡ v * n + 1 → x < m * n → y < m * n → x % m ≡ y % m → x % n ≡ y % n → x ≡ y
two_remainders m n u v x y some_m some_n one hx hy by_m by_n =
    let near_m = remainders_congruent m x y some_m by_m in
    let near_n = remainders_congruent n x y some_n by_n in
    let one' : pos u *ℤ pos m ≡ pos v *ℤ pos n +ℤ pos 1 = ap pos one in
    let both : Congruent (m * n) (pos x) (pos y) = record {
      times = pos u *ℤ near_n.times -ℤ pos v *ℤ near_m.times;
      differ = apart_by_both (pos x) (pos y) near_m.times near_n.times (pos u) (pos v) (pos m) (pos n) one' near_m.differ near_n.differ;
    } in
    same_from_congruent hx hy both

-- ---- the two primes

q_is : q ≡ 268369921 * 249561089
unfolding q
q_is = refl

-- a number below q is determined by its two residues
pub only_pair : (x y : ℕ) → x < q → y < q → x % 268369921 ≡ y % 268369921 → x % 249561089 ≡ y % 249561089 → x ≡ y
only_pair x y hx hy first second =
    two_remainders 268369921 249561089 97389680 104729711 x y (lit< tt) (lit< tt) refl (rw q_is at hx) (rw q_is at hy) first second

-- the joined number
abbrev joined : ℕ → ℕ → ℕ
joined a b = a + 268369921 * ((b + 249561089 - a % 249561089) * 97389680 % 249561089)

pub pair_below : (a b : ℕ) → a < 268369921 → b < 249561089 → joined a b < q
pair_below a b ha hb = omega (arith, q_is)

pair_first : (a b : ℕ) → a < 268369921 → b < 249561089 → joined a b % 268369921 ≡ a
pair_first a b ha hb = omega arith

pair_second : (a b : ℕ) → a < 268369921 → b < 249561089 → joined a b % 249561089 ≡ b
pair_second a b ha hb = omega arith

pub pair_only : (a b y : ℕ) → a < 268369921 → b < 249561089 → y < q → y % 268369921 ≡ a → y % 249561089 ≡ b → y ≡ joined a b
pair_only a b y ha hb below first second =
    only_pair y (joined a b) below (pair_below a b ha hb) (first ∙ sym (pair_first a b ha hb)) (second ∙ sym (pair_second a b ha hb))
