-- Digits of w bits of a number: how large they are, that they add up to the number, and that products with the digits of a
-- polynomial add up to the product with the polynomial.
use Rattle.std.proofs.Common.{◌≡◌, ℕ, zero, suc, ◌+◌, ◌-◌, ◌*◌, ◌/◌, ◌%◌, ◌^◌, ◌<◌, ◌≤◌, ℤ, pos, unsigned_abs, ◌*ℤ◌, List, length, get_or, map, All, refl, sym, ◌∙◌, ap, arith, mod-eq_of_lt, inl, inr}
use Rattle.std.proofs.Math.Nat.{div-le_self, pow-zero, pow-succ'}
use Rattle.std.proofs.Math.Arith.{mod-mul}
use Rattle.std.proofs.lemmas.Nat.{pow_pos}
use Rattle.std.proofs.lemmas.Int.{ints}
use Rattle.std.proofs.lemmas.Bool.{cases_lt}
use Rattle.std.proofs.lemmas.List.{length-map, get_or-map, get_or_past}
use Rattle.std.proofs.lemmas.List.Elements.{All-map, All-get_or}
use Rattle.negacyclic.specs.Sums.{total}
use Rattle.negacyclic.specs.Digits.{digit}
use Rattle.negacyclic.specs.Residues.{cen}
use Rattle.negacyclic.specs.Ring.{product_at, at}
use Rattle.negacyclic.proofs.Digits.{pow-mul, power_above_zero, digit-below}
use Rattle.negacyclic.proofs.Integers.{mul-zero_ℤ}
use Rattle.negacyclic.proofs.Reduction.{cen_at_most}
use Rattle.negacyclic.proofs.Sums.{total_same, total_zero}
use Rattle.negacyclic.proofs.Product.{product_at-scale, product_at-scale_left, product_at-total_left}
use Rattle.negacyclic.proofs.Turn.{product_at-same}

-- ---- one digit

-- it is at most the number,
pub digit-at_most : (w k x : ℕ) → digit (2 ^ w) k x ≤ x
unfolding digit
digit-at_most w k x = omega (arith, div-le_self x ((2 ^ w) ^ k), pow_pos w)

-- and below 2^w
pub digit-width : (w k x : ℕ) → digit (2 ^ w) k x < 2 ^ w
digit-width w k x = digit-below (2 ^ w) k x (pow_pos w)

-- and so are the centred representatives of digits.
pub cen_digit : (q w k x : ℕ) → unsigned_abs (cen q (digit (2 ^ w) k x)) ≤ 2 ^ w - 1
cen_digit q w k x = omega (arith, cen_at_most q (digit (2 ^ w) k x), digit-width w k x)

-- ---- all digits of a number

-- in any base they add up to the number, as far as they go
pub digits_total_mod : (base t x : ℕ) → 0 < base → total t (λ k. pos (base ^ k) *ℤ pos (digit base k x)) ≡ pos (x % base ^ t)
unfolding total digit
digits_total_mod base zero x some =
    let none : x % base ^ 0 ≡ 0 = rw pow-zero (omega arith) in sym (ap (λ (n : ℕ). pos n) none)
digits_total_mod base (suc t) x some =
    let front : total t (λ k. pos (base ^ k) *ℤ pos (digit base k x)) ≡ pos (x % base ^ t) = digits_total_mod base t x some in
    let split : x % (base * base ^ t) ≡ x / base ^ t % base * base ^ t + x % base ^ t = mod-mul x some (power_above_zero base t some) in
    let whole : x % base ^ suc t ≡ digit base t x * base ^ t + x % base ^ t = ap (λ (p : ℕ). x % p) (pow-succ' base t) ∙ split in
    omega (arith, ints)

-- Where there are enough digits of w bits, they add up to the number.
pub digits_total : (w t x : ℕ) → x < 2 ^ (w * t) → total t (λ k. pos (2 ^ (w * k)) *ℤ pos (digit (2 ^ w) k x)) ≡ pos x
digits_total w t x small =
    let reach : 2 ^ (w * t) ≡ (2 ^ w) ^ t = pow-mul 2 w t in
    let within : x < (2 ^ w) ^ t = omega arith in
    total_same t (λ k. pos (2 ^ (w * k)) *ℤ pos (digit (2 ^ w) k x)) (λ k. pos ((2 ^ w) ^ k) *ℤ pos (digit (2 ^ w) k x))
    (λ k h. ap (λ (p : ℕ). pos p *ℤ pos (digit (2 ^ w) k x)) (pow-mul 2 w k))
    ∙ digits_total_mod (2 ^ w) t x (pow_pos w)
    ∙ ap (λ (n : ℕ). pos n) (mod-eq_of_lt within)

-- ---- the digits of a polynomial

-- a coefficient of the list of digits
pub at-digits : (w k : ℕ) (a : List ℕ) (i : ℕ) → i < length a → at (map (λ x. digit (2 ^ w) k x) a) i ≡ pos (digit (2 ^ w) k (get_or a i 0))
unfolding at
at-digits w k a i h = ap (λ (n : ℕ). pos n) (get_or-map (λ x. digit (2 ^ w) k x) a i 0 0 h)

-- the sizes of its numbers
pub digits_small : (q w k : ℕ) (a : List ℕ) → All (λ x. unsigned_abs (cen q x) ≤ 2 ^ w - 1) (map (λ x. digit (2 ^ w) k x) a)
digits_small q w k a = All-map (λ (d : ℕ). unsigned_abs (cen q d) ≤ 2 ^ w - 1) (λ x. digit (2 ^ w) k x) a (λ i d h. cen_digit q w k (get_or a i d))

-- The digits of each coefficient add up to it.
pub digits_add_up : (w t : ℕ) (a : List ℕ) (i : ℕ) → All (λ x. x < 2 ^ (w * t)) a → total t (λ k. pos (2 ^ (w * k)) *ℤ at (map (λ x. digit (2 ^ w) k x) a) i) ≡ at a i
unfolding at
digits_add_up w t a i below =
    elim (cases_lt i (length a)) [
      | inl h ↦
          total_same t (λ k. pos (2 ^ (w * k)) *ℤ at (map (λ x. digit (2 ^ w) k x) a) i) (λ k. pos (2 ^ (w * k)) *ℤ pos (digit (2 ^ w) k (get_or a i 0)))
          (λ k lt. ap (λ (z : ℤ). pos (2 ^ (w * k)) *ℤ z) (at-digits w k a i h))
          ∙ digits_total w t (get_or a i 0) (All-get_or (λ x. x < 2 ^ (w * t)) a i 0 h below)
      | inr past ↦
          let none : at a i ≡ pos 0 = ap (λ (n : ℕ). pos n) (get_or_past a i 0 past) in
          total_zero t (λ k. pos (2 ^ (w * k)) *ℤ at (map (λ x. digit (2 ^ w) k x) a) i)
          (λ k lt.
          let size : length (map (λ x. digit (2 ^ w) k x) a) ≤ i = omega (arith, length-map a (λ x. digit (2 ^ w) k x)) in
          let zero : at (map (λ x. digit (2 ^ w) k x) a) i ≡ pos 0 = ap (λ (n : ℕ). pos n) (get_or_past (map (λ x. digit (2 ^ w) k x) a) i 0 size) in
          ap (λ (z : ℤ). pos (2 ^ (w * k)) *ℤ z) zero ∙ mul-zero_ℤ (pos (2 ^ (w * k))))
          ∙ sym none
    ]

-- Where parts add up to a with the factors p, the products of the parts with the multiples p f add up to the product of a and f.
pub parts_gather : (N t : ℕ) (p : ℕ → ℤ) (part : ℕ → ℕ → ℤ) (a f : ℕ → ℤ) (k : ℕ) → ((i : ℕ) → i < N → total t (λ j. p j *ℤ part j i) ≡ a i)
    → total t (λ j. product_at N (part j) (λ i. p j *ℤ f i) k) ≡ product_at N a f k
parts_gather N t p part a f k add_up =
    total_same t (λ j. product_at N (part j) (λ i. p j *ℤ f i) k) (λ j. product_at N (λ i. p j *ℤ part j i) f k)
    (λ j h. product_at-scale N (part j) f (p j) k ∙ sym (product_at-scale_left N (part j) f (p j) k))
    ∙ sym (product_at-total_left N t (λ j i. p j *ℤ part j i) f k)
    ∙ product_at-same N (λ i. total t (λ j. p j *ℤ part j i)) a f f k add_up (λ i h. refl)

-- So the products with the digits of a polynomial, each with 2^(w j) f for digit j, add up to the product with the polynomial.
pub digits_gather : (N w t : ℕ) (a : List ℕ) (f : ℕ → ℤ) (k : ℕ) → All (λ x. x < 2 ^ (w * t)) a
    → total t (λ j. product_at N (at (map (λ x. digit (2 ^ w) j x) a)) (λ i. pos (2 ^ (w * j)) *ℤ f i) k) ≡ product_at N (at a) f k
digits_gather N w t a f k below =
    parts_gather N t (λ j. pos (2 ^ (w * j))) (λ j. at (map (λ x. digit (2 ^ w) j x) a)) (at a) f k (λ i h. digits_add_up w t a i below)
