-- From a node of the tree to those above it: powers of a number that has a lower node as a power.
use Rattle.std.proofs.Common.{◌≡◌, ℕ, zero, suc, ◌+◌, ◌*◌, ◌/◌, ◌%◌, ◌^◌, ◌<◌, ◌≤◌, ℤ, pos, ◌*ℤ◌, neg_ℤ, refl, ◌∙◌, ap, arith, inl, inr}
use Rattle.std.proofs.lemmas.Bool.{cases_eq}
use Rattle.std.proofs.lemmas.Nat.{pow-add}
use Rattle.std.proofs.Math.Nat.{pow-suc}
use Rattle.std.proofs.lemmas.Int.{ints}
use Rattle.negacyclic.proofs.Integers.{ring}
use Rattle.negacyclic.proofs.Congruence.{Congruent, congruent_equal, congruent_trans, congruent_mul}
use Rattle.ring_transform.specs.Points.{IsPrime, node}
use Rattle.ring_transform.proofs.Polynomials.{first_power}
use Rattle.ring_transform.proofs.Nodes.{node_left, node_right, node_root}

-- congruent numbers, written otherwise
pub congruent_along : {p : ℕ} {x y : ℤ} (u v : ℤ) → u ≡ x → y ≡ v → Congruent p x y → Congruent p u v
congruent_along u v e f h = congruent_trans (congruent_equal e) (congruent_trans h (congruent_equal f))

-- the square of a node is the node above it
pub node_square : (p d j : ℕ) → IsPrime p → d < 11 → Congruent p (pos (node p (suc d) j) *ℤ pos (node p (suc d) j)) (pos (node p d (j / 2)))
node_square p d j prime h =
    elim (cases_eq (j % 2) 0) [
      | inl even ↦
          let e : j ≡ 2 * (j / 2) = omega arith in
          let square = node_left p d (j / 2) prime h in
          congruent_along (pos (node p (suc d) j) *ℤ pos (node p (suc d) j)) (pos (node p d (j / 2)))
          (ap (λ (i : ℕ). pos (node p (suc d) i) *ℤ pos (node p (suc d) i)) e) refl square
      | inr odd ↦
          let e : j ≡ 2 * (j / 2) + 1 = omega arith in
          let opposite = node_right p d (j / 2) prime h in
          let square = node_left p d (j / 2) prime h in
          let first = congruent_mul opposite opposite in
          congruent_along (pos (node p (suc d) j) *ℤ pos (node p (suc d) j)) (pos (node p d (j / 2)))
          (ap (λ (i : ℕ). pos (node p (suc d) i) *ℤ pos (node p (suc d) i)) e) refl
          (congruent_trans first (congruent_trans (congruent_equal (signs (pos (node p (suc d) (2 * (j / 2)))))) square))
    ]
  where
    signs : (x : ℤ) → neg_ℤ x *ℤ neg_ℤ x ≡ x *ℤ x
    signs x = simp ring (omega (arith, ints))

-- one layer up
one_up : (p d j s z : ℕ) → IsPrime p → d < 11 → Congruent p (pos (z ^ s)) (pos (node p (suc d) j)) → Congruent p (pos (z ^ (s + s))) (pos (node p d (j / 2)))
one_up p d j s z prime h is =
    congruent_along (pos (z ^ (s + s))) (pos (node p d (j / 2))) (ap pos (pow-add z s s)) refl
    (congruent_trans (congruent_mul is is) (node_square p d j prime h))

-- Where z^s is number i of the 2^m nodes that stand m layers below node j, z^(2^m s) is node j.
pub descend : (m p d j i s z : ℕ) → IsPrime p → d + m ≤ 11 → i < 2 ^ m → Congruent p (pos (z ^ s)) (pos (node p (d + m) (j * 2 ^ m + i)))
    → Congruent p (pos (z ^ (2 ^ m * s))) (pos (node p d j))
descend zero p d j i s z prime deep within is =
    let depth : d + zero ≡ d = omega arith in
    let place : j * 2 ^ zero + i ≡ j = omega arith in
    let power : 2 ^ zero * s ≡ s = omega arith in
    congruent_along (pos (z ^ (2 ^ zero * s))) (pos (node p d j)) (ap (λ (n : ℕ). pos (z ^ n)) power)
    (ap (λ (n : ℕ). pos (node p n (j * 2 ^ zero + i))) depth ∙ ap (λ (n : ℕ). pos (node p d n)) place) is
descend (suc m) p d j i s z prime deep within is =
    let twice = pow-suc 2 m in
    let depth : d + suc m ≡ suc (d + m) = omega arith in
    let above : (j * 2 ^ suc m + i) / 2 ≡ j * 2 ^ m + i / 2 = halved j (2 ^ m) (2 ^ suc m) i twice in
    let power : 2 ^ suc m * s ≡ 2 ^ m * (s + s) = doubled (2 ^ m) (2 ^ suc m) s twice in
    let here : Congruent p (pos (z ^ s)) (pos (node p (suc (d + m)) (j * 2 ^ suc m + i))) = congruent_along (pos (z ^ s)) (pos (node p (suc (d + m)) (j * 2 ^ suc m + i))) refl (ap (λ (n : ℕ). pos (node p n (j * 2 ^ suc m + i))) depth) is in
    let up = one_up p (d + m) (j * 2 ^ suc m + i) s z prime (omega arith) here in
    let up' : Congruent p (pos (z ^ (s + s))) (pos (node p (d + m) (j * 2 ^ m + i / 2))) = congruent_along (pos (z ^ (s + s))) (pos (node p (d + m) (j * 2 ^ m + i / 2))) refl (ap (λ (n : ℕ). pos (node p (d + m) n)) above) up in
    congruent_along (pos (z ^ (2 ^ suc m * s))) (pos (node p d j)) (ap (λ (n : ℕ). pos (z ^ n)) power) refl
    (descend m p d j (i / 2) (s + s) z prime (omega arith) (omega arith) up')
  where
    halved : (j w t i : ℕ) → t ≡ w * 2 → (j * t + i) / 2 ≡ j * w + i / 2
    halved j w t i e = rw e (omega arith)

    doubled : (w t s : ℕ) → t ≡ w * 2 → t * s ≡ w * (s + s)
    doubled w t s e = rw e (omega arith)

-- The 2^m-th power of a node at depth m is -1.
pub leaf_turns : (m p i z : ℕ) → IsPrime p → m ≤ 11 → i < 2 ^ m → Congruent p (pos z) (pos (node p m i)) → Congruent p (pos (z ^ (2 ^ m))) (neg_ℤ (pos 1))
leaf_turns m p i z prime deep within is =
    let here : Congruent p (pos (z ^ 1)) (pos (node p (0 + m) (0 * 2 ^ m + i))) = congruent_along (pos (z ^ 1)) (pos (node p (0 + m) (0 * 2 ^ m + i))) (ap pos (first_power z)) (ap (λ (n : ℕ). pos (node p n i)) depth ∙ ap (λ (n : ℕ). pos (node p (0 + m) n)) place) is in
    let root = descend m p 0 0 i 1 z prime (omega arith) within here in
    congruent_along (pos (z ^ (2 ^ m))) (neg_ℤ (pos 1)) (ap (λ (n : ℕ). pos (z ^ n)) whole) refl (congruent_trans root (node_root p 0 prime))
  where
    depth : m ≡ 0 + m
    depth = omega arith

    place : i ≡ 0 * 2 ^ m + i
    place = omega arith

    whole : 2 ^ m ≡ 2 ^ m * 1
    whole = omega arith
