-- The nodes of the tree: square roots of the node above, opposite to each other, and their inverses.
use Rattle.std.proofs.Common.{◌≡◌, ℕ, zero, suc, ◌+◌, ◌-◌, ◌*◌, ◌/◌, ◌%◌, ◌^◌, ◌<◌, ◌≤◌, ℤ, pos, ◌*ℤ◌, neg_ℤ, refl, sym, ◌∙◌, ap, arith, mod-lt, lit<, inl, inr}
use Rattle.std.proofs.lemmas.Int.{ints}
use Rattle.std.proofs.lemmas.Nat.{pow-add}
use Rattle.std.proofs.Math.Nat.{pow-suc}
use Rattle.negacyclic.specs.Residues.{residue}
use Rattle.negacyclic.proofs.Congruence.{Congruent, congruent_equal, congruent_sym, congruent_trans, congruent_mul}
use Rattle.negacyclic.proofs.Residues.{residue_congruent}
use Rattle.ring_transform.specs.Points.{IsPrime, generator, reversed, exponent, node, inverse_node}

-- ---- the primes

pub prime_some : (p : ℕ) → IsPrime p → 0 < p
prime_some p (inl e) = rw e (lit< tt)
prime_some p (inr e) = rw e (lit< tt)

-- odd, and more than 1
pub prime_odd : (p : ℕ) → IsPrime p → p % 2 ≡ 1
prime_odd p (inl e) = rw e refl
prime_odd p (inr e) = rw e refl

pub prime_more : (p : ℕ) → IsPrime p → 1 < p
prime_more p (inl e) = rw e (lit< tt)
prime_more p (inr e) = rw e (lit< tt)

-- the generator's power of 2048 leaves p - 1
half_remainder : (p : ℕ) → IsPrime p → generator p ^ 2048 % p ≡ p - 1
unfolding generator
half_remainder p (inl e) = rw e refl
half_remainder p (inr e) = rw e refl

-- a remainder is congruent to the number
pub remainder_congruent : (p x : ℕ) → 0 < p → Congruent p (pos (x % p)) (pos x)
unfolding residue
remainder_congruent p x some = residue_congruent p (pos x) some

-- the generator's power of 2048 is -1
pub half_turn : (p : ℕ) → IsPrime p → Congruent p (pos (generator p ^ 2048)) (neg_ℤ (pos 1))
half_turn p prime =
    let some = prime_some p prime in
    let left = half_remainder p prime in
    congruent_trans (congruent_sym (remainder_congruent p (generator p ^ 2048) some))
    (record { times = pos 1; differ = omega (arith, ints) })

-- ---- reversed bits

-- of an even number, and of an odd one
reversed_left : (bits j : ℕ) → reversed (suc bits) (2 * j) ≡ reversed bits j
unfolding reversed
reversed_left bits j =
    let low : 2 * j % 2 ≡ 0 = omega arith in
    let high : 2 * j / 2 ≡ j = omega arith in rw (low, high) (omega arith)

reversed_right : (bits j : ℕ) → reversed (suc bits) (2 * j + 1) ≡ 2 ^ bits + reversed bits j
unfolding reversed
reversed_right bits j =
    let low : (2 * j + 1) % 2 ≡ 1 = omega arith in
    let high : (2 * j + 1) / 2 ≡ j = omega arith in rw (low, high) (omega arith)

-- they are as many bits
reversed_below : (bits j : ℕ) → reversed bits j < 2 ^ bits
unfolding reversed
reversed_below zero j = omega arith
reversed_below (suc bits) j =
    let rest = reversed_below bits (j / 2) in
    let twice = pow-suc 2 bits in
    let bit : j % 2 < 2 = mod-lt j (omega arith) in
    below (j % 2) (2 ^ bits) (reversed bits (j / 2)) (2 ^ suc bits) bit rest twice
  where
    below : (b w r t : ℕ) → b < 2 → r < w → t ≡ w * 2 → b * w + r < t
    below zero w r t h g e = omega arith
    below (suc zero) w r t h g e = omega arith
    below (suc (suc b)) w r t h g e = absurd (omega arith)

-- ---- exponents

power_left : (d : ℕ) → d < 11 → 2 ^ (11 - d) ≡ 2 ^ (11 - suc d) * 2
power_left d h =
    let e : 11 - d ≡ suc (11 - suc d) = omega arith in rw e (pow-suc 2 (11 - suc d))

power_right : (d : ℕ) → d < 11 → 2 * 2 ^ d * 2 ^ (11 - suc d) ≡ 2048
power_right d h =
    let e : 11 ≡ suc d + (11 - suc d) = omega arith in
    let whole : 2 ^ 11 ≡ 2 ^ suc d * 2 ^ (11 - suc d) = ap (λ (n : ℕ). 2 ^ n) e ∙ pow-add 2 (suc d) (11 - suc d) in
    let twice = pow-suc 2 d in
    ap (λ (n : ℕ). n * 2 ^ (11 - suc d)) (sym (turned (2 ^ d) (2 ^ suc d) twice)) ∙ sym whole
  where
    turned : (w t : ℕ) → t ≡ w * 2 → t ≡ 2 * w
    turned w t e = omega arith

-- twice that of the first node below is that of the node
exponent_left : (d j : ℕ) → d < 11 → exponent (suc d) (2 * j) + exponent (suc d) (2 * j) ≡ exponent d j
unfolding exponent
exponent_left d j h =
    ap (λ (r : ℕ). (2 * r + 1) * 2 ^ (11 - suc d) + (2 * r + 1) * 2 ^ (11 - suc d)) (reversed_left d j)
    ∙ doubled (2 * reversed d j + 1) (2 ^ (11 - suc d)) (2 ^ (11 - d)) (power_left d h)
  where
    doubled : (r w t : ℕ) → t ≡ w * 2 → r * w + r * w ≡ r * t
    doubled r w t e = rw e (omega arith)

-- that of the second is half a turn more
exponent_right : (d j : ℕ) → d < 11 → exponent (suc d) (2 * j + 1) ≡ exponent (suc d) (2 * j) + 2048
unfolding exponent
exponent_right d j h =
    let last = reversed_right d j in
    let first = reversed_left d j in
    ap (λ (r : ℕ). (2 * r + 1) * 2 ^ (11 - suc d)) last
    ∙ apart (reversed d j) (2 ^ d) (2 ^ (11 - suc d)) (power_right d h)
    ∙ ap (λ (r : ℕ). (2 * r + 1) * 2 ^ (11 - suc d) + 2048) (sym first)
  where
    apart : (r w t : ℕ) → 2 * w * t ≡ 2048 → (2 * (w + r) + 1) * t ≡ (2 * r + 1) * t + 2048
    apart r w t e = omega arith

-- at the root it is half a turn
exponent_root : (j : ℕ) → exponent 0 j ≡ 2048
unfolding exponent reversed
exponent_root j = refl

-- it is less than a turn
pub exponent_below : (d j : ℕ) → d ≤ 11 → exponent d j ≤ 4096
unfolding exponent
exponent_below d j h =
    let below = reversed_below d j in
    let e : 11 ≡ d + (11 - d) = omega arith in
    let whole : 2048 ≡ 2 ^ d * 2 ^ (11 - d) = ap (λ (n : ℕ). 2 ^ n) e ∙ pow-add 2 d (11 - d) in
    most (reversed d j) (2 ^ d) (2 ^ (11 - d)) below whole
  where
    most : (r w t : ℕ) → r < w → 2048 ≡ w * t → (2 * r + 1) * t ≤ 4096
    most r w t h e =
        let gap : w ≡ r + 1 + (w - r - 1) = omega arith in
        let full : 2048 ≡ (r + 1 + (w - r - 1)) * t = rw gap at e in omega arith

-- ---- nodes

-- a node is that power of the generator
pub node_power : (p d j : ℕ) → IsPrime p → Congruent p (pos (node p d j)) (pos (generator p ^ exponent d j))
unfolding node
node_power p d j prime = remainder_congruent p (generator p ^ exponent d j) (prime_some p prime)

pub node-below : (p d j : ℕ) → IsPrime p → node p d j < p
unfolding node
node-below p d j prime = mod-lt (generator p ^ exponent d j) (prime_some p prime)

pub inverse_node-below : (p d j : ℕ) → IsPrime p → inverse_node p d j < p
unfolding inverse_node
inverse_node-below p d j prime = mod-lt (generator p ^ (4096 - exponent d j)) (prime_some p prime)

-- the same of a number that is one
pub node-below_from : (p d j x : ℕ) → IsPrime p → x ≡ node p d j → x < p
node-below_from p d j x prime is = rw is (node-below p d j prime)

pub inverse_node-below_from : (p d j x : ℕ) → IsPrime p → x ≡ inverse_node p d j → x < p
inverse_node-below_from p d j x prime is = rw is (inverse_node-below p d j prime)

-- the product of two powers
powers_product : (g a b t : ℕ) → a + b ≡ t → pos (g ^ a) *ℤ pos (g ^ b) ≡ pos (g ^ t)
powers_product g a b t e = ap pos (sym (pow-add g a b) ∙ ap (λ (n : ℕ). g ^ n) e)

-- the first node below is a square root
pub node_left : (p d j : ℕ) → IsPrime p → d < 11 → Congruent p (pos (node p (suc d) (2 * j)) *ℤ pos (node p (suc d) (2 * j))) (pos (node p d j))
node_left p d j prime h =
    let w = node_power p (suc d) (2 * j) prime in
    congruent_trans (congruent_mul w w)
    (congruent_trans (congruent_equal (powers_product (generator p) (exponent (suc d) (2 * j)) (exponent (suc d) (2 * j)) (exponent d j) (exponent_left d j h)))
    (congruent_sym (node_power p d j prime)))

-- the second is its opposite
pub node_right : (p d j : ℕ) → IsPrime p → d < 11 → Congruent p (pos (node p (suc d) (2 * j + 1))) (neg_ℤ (pos (node p (suc d) (2 * j))))
node_right p d j prime h =
    let e = exponent (suc d) (2 * j) in
    let turned : Congruent p (pos (generator p ^ e) *ℤ pos (generator p ^ 2048)) (pos (node p (suc d) (2 * j)) *ℤ neg_ℤ (pos 1)) = congruent_mul (congruent_sym (node_power p (suc d) (2 * j) prime)) (half_turn p prime) in
    congruent_trans (node_power p (suc d) (2 * j + 1) prime)
    (congruent_trans (congruent_equal (sym (powers_product (generator p) e 2048 (exponent (suc d) (2 * j + 1)) (sym (exponent_right d j h)))))
    (congruent_trans turned (congruent_equal (minus (pos (node p (suc d) (2 * j)))))))
  where
    minus : (x : ℤ) → x *ℤ neg_ℤ (pos 1) ≡ neg_ℤ x
    minus x = omega (arith, ints)

-- the root is -1
pub node_root : (p j : ℕ) → IsPrime p → Congruent p (pos (node p 0 j)) (neg_ℤ (pos 1))
node_root p j prime =
    congruent_trans (node_power p 0 j prime)
    (congruent_trans (congruent_equal (ap (λ (e : ℕ). pos (generator p ^ e)) (exponent_root j))) (half_turn p prime))

-- a node times its inverse is 1
pub node_inverse : (p d j : ℕ) → IsPrime p → d ≤ 11 → Congruent p (pos (node p d j) *ℤ pos (inverse_node p d j)) (pos 1)
unfolding inverse_node
node_inverse p d j prime h =
    let g = generator p in
    let e = exponent d j in
    let whole : e + (4096 - e) ≡ 2048 + 2048 = omega (arith, exponent_below d j h) in
    let half = half_turn p prime in
    congruent_trans (congruent_mul (node_power p d j prime) (remainder_congruent p (g ^ (4096 - e)) (prime_some p prime)))
    (congruent_trans (congruent_equal (powers_product g e (4096 - e) (2048 + 2048) whole ∙ sym (powers_product g 2048 2048 (2048 + 2048) refl)))
    (congruent_mul half half))
