-- The automorphism of a round, and how many rounds there are.
use Rattle.std.proofs.Common.{◌≡◌, ℕ, suc, ◌+◌, ◌-◌, ◌*◌, ◌/◌, ◌%◌, ◌^◌, ◌<◌, ◌≤◌, inl, inr, ◌∙◌, ap, arith}
use Rattle.std.proofs.Math.Nat.{pow-succ', pow-le-pow_right}
use Rattle.std.proofs.lemmas.Bool.{cases_lt}
use Rattle.std.proofs.lemmas.Nat.{pow_pos, pow-add, shl-shr, one_shl}
use Rattle.ring_poly.specs.Polynomials.{IsDegree}

-- ---- powers of 2

-- one more doubles the power
pub twice : (j : ℕ) → 2 ^ (j + 1) ≡ 2 * 2 ^ j
twice j =
    let next : j + 1 ≡ suc j = omega arith in ap (λ (k : ℕ). 2 ^ k) next ∙ pow-succ' 2 j

exponent_below : (j e N : ℕ) → N ≡ 2 ^ e → 2 ^ (j + 1) ≤ N → j < e
exponent_below j e N is most =
    elim (cases_lt j e) [
      | inl below ↦ below
      | inr past ↦
          let more : 2 ^ e ≤ 2 ^ j = pow-le-pow_right (omega arith) past in
          absurd (omega (arith, twice j, pow_pos j, is, most, more))
    ]

-- ---- the degree

degree-most : (N : ℕ) → IsDegree N → N ≤ 2048
degree-most N (inl is) = omega (arith, is)
degree-most N (inr is) = omega (arith, is)

-- There are at most 11 rounds.
pub few_rounds : (N r : ℕ) → IsDegree N → 2 ^ r ≤ N → r < 12
few_rounds N r is most =
    elim (cases_lt r 12) [
      | inl below ↦ below
      | inr past ↦
          let more : 2 ^ 12 ≤ 2 ^ r = pow-le-pow_right (omega arith) past in
          absurd (omega (arith, degree-most N is, most, more))
    ]

-- ---- the automorphism

-- 2^e / 2^j + 1 is odd, for j below e
odd_power : (j e N : ℕ) → N ≡ 2 ^ e → 2 ^ (j + 1) ≤ N → (N / 2 ^ j + 1) % 2 ≡ 1
odd_power j e N is most =
    let below : j < e = exponent_below j e N is most in
    let rest : ℕ = e - j - 1 in
    let split : e ≡ rest + 1 + j = omega arith in
    let whole : N ≡ 2 ^ (rest + 1) * 2 ^ j = is ∙ ap (λ (k : ℕ). 2 ^ k) split ∙ pow-add 2 (rest + 1) j in
    let quotient : N / 2 ^ j ≡ 2 * 2 ^ rest = ap (λ (n : ℕ). n / 2 ^ j) whole ∙ shl-shr (2 ^ (rest + 1)) j ∙ twice rest in
    omega (arith, quotient)

-- N / 2^j + 1 is odd, where 2^(j+1) divides N
pub power_odd : (N j : ℕ) → IsDegree N → 2 ^ (j + 1) ≤ N → (N / 2 ^ j + 1) % 2 ≡ 1
power_odd N j (inl is) most = odd_power j 8 N is most
power_odd N j (inr is) most = odd_power j 11 N is most

-- ---- as the code works them out

-- a round's number is small
pub round_small : (N j : ℕ) → IsDegree N → 2 ^ (j + 1) ≤ N → j < 64
round_small N j is most = omega (arith, few_rounds N (j + 1) is most)

-- the power of 2 of a round, shifted
pub shifted_one : (N j : ℕ) → IsDegree N → 2 ^ (j + 1) ≤ N → (1 * 2 ^ j) % 2 ^ 64 ≡ 2 ^ j
shifted_one N j is most = one_shl j 64 (round_small N j is most)

-- ---- the rounds of a list of keys

-- the number of a round is one for which its power is even
pub round_within : (N first n i round : ℕ) → i < n → round ≡ first + i → 2 ^ (first + n) ≤ N → 2 ^ (round + 1) ≤ N
round_within N first n i round h is most =
    let among : round + 1 ≤ first + n = omega arith in
    let power : 2 ^ (round + 1) ≤ 2 ^ (first + n) = pow-le-pow_right (omega arith) among in
    omega (arith, power, most)

-- what a round makes has room
pub room_for : (n i size len : ℕ) → i < n → size ≡ 2 ^ i → len ≡ 2 ^ n → 2 * size ≤ len
room_for n i size len h is count =
    let among : i + 1 ≤ n = omega arith in
    let power : 2 ^ (i + 1) ≤ 2 ^ n = pow-le-pow_right (omega arith) among in
    omega (arith, power, twice i, is, count)

-- and stays small
pub size_small : (N first n i size : ℕ) → IsDegree N → 2 ^ (first + n) ≤ N → i < n → size ≡ 2 ^ i → size * 2 ≤ 2048
size_small N first n i size known most h is =
    let among : i + 1 ≤ first + n = omega arith in
    let power : 2 ^ (i + 1) ≤ 2 ^ (first + n) = pow-le-pow_right (omega arith) among in
    omega (arith, power, twice i, is, most, degree-most N known)

-- How many ciphertexts the rounds make of one, shifted.
pub count_shifted : (N first n : ℕ) → IsDegree N → 2 ^ (first + n) ≤ N → (1 * 2 ^ n) % 2 ^ 64 ≡ 2 ^ n
count_shifted N first n known most =
    let small : n < 64 = omega (arith, few_rounds N (first + n) known most) in
    one_shl n 64 small
