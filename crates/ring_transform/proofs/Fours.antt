-- The last two layers of four coefficients, from the butterflies that the code computes.
use Rattle.std.proofs.Common.{◌≡◌, ℕ, zero, suc, ◌+◌, ◌*◌, ◌^◌, ◌<◌, ◌≤◌, ℤ, pos, ◌+ℤ◌, ◌-ℤ◌, ◌*ℤ◌, List, [], ◌∷◌, length, get_or, set, refl, ◌∙◌, ap, arith, length-set, get_or-set_same, get_or-set_other}
use Rattle.std.proofs.Math.Nat.{pow-suc}
use Rattle.negacyclic.specs.Residues.{residue}
use Rattle.negacyclic.specs.Ring.{at}
use Rattle.negacyclic.proofs.Congruence.{Congruent, congruent_equal, congruent_trans}
use Rattle.negacyclic.proofs.Residues.{residue_congruent}
use Rattle.ring_transform.specs.Points.{IsPrime, node, inverse_node}
use Rattle.ring_transform.specs.Remainders.{Remainders}
use Rattle.ring_transform.specs.Tables.{AreTwiddles, AreInverses}
use Rattle.ring_transform.proofs.Nodes.{prime_some, node_inverse}
use Rattle.ring_transform.proofs.Halving.{Halves}
use Rattle.ring_transform.proofs.Blocks.{halves_apart, halves_joined, four_parts, remainders_same}

-- what holds of 0 and 1 holds below 2, and what of 0 below 1
below_two : (P : ℕ → Type 0) → P 0 → P 1 → (t : ℕ) → t < 2 → P t
below_two P first second zero h = first
below_two P first second (suc zero) h = second
below_two P first second (suc (suc t)) h = absurd (omega arith)

below_one : (P : ℕ → Type 0) → P 0 → (t : ℕ) → t < 1 → P t
below_one P first zero h = first
below_one P first (suc t) h = absurd (omega arith)

pub below_four : (P : ℕ → Type 0) → P 0 → P 1 → P 2 → P 3 → (t : ℕ) → t < 4 → P t
below_four P a b c d zero h = a
below_four P a b c d (suc zero) h = b
below_four P a b c d (suc (suc zero)) h = c
below_four P a b c d (suc (suc (suc zero))) h = d
below_four P a b c d (suc (suc (suc (suc t)))) h = absurd (omega arith)

-- a number that is a residue is congruent to what it is the residue of
pub from_residue : (p x : ℕ) (z : ℤ) → 0 < p → x ≡ residue p z → Congruent p (pos x) z
from_residue p x z some is = congruent_trans (congruent_equal (ap pos is)) (residue_congruent p z some)

module _ (p d j : ℕ) (prime : IsPrime p) (deep : d + 2 ≤ 11) where
  -- the transform
  pub four_apart : (whole : ℕ → ℤ) (w u v x0 x1 x2 x3 y0 y1 y2 y3 : ℕ) → w ≡ node p (suc d) (2 * j) → u ≡ node p (suc (suc d)) (2 * (2 * j)) → v ≡ node p (suc (suc d)) (2 * (2 * j + 1))
      → x0 ≡ residue p (whole 0 +ℤ pos w *ℤ whole 2) → x2 ≡ residue p (whole 0 -ℤ pos w *ℤ whole 2)
      → x1 ≡ residue p (whole 1 +ℤ pos w *ℤ whole 3) → x3 ≡ residue p (whole 1 -ℤ pos w *ℤ whole 3)
      → y0 ≡ residue p (pos x0 +ℤ pos u *ℤ pos x1) → y1 ≡ residue p (pos x0 -ℤ pos u *ℤ pos x1)
      → y2 ≡ residue p (pos x2 +ℤ pos v *ℤ pos x3) → y3 ≡ residue p (pos x2 -ℤ pos v *ℤ pos x3)
      → Remainders p 1 2 d j 1 whole (at (y0 ∷ y1 ∷ y2 ∷ y3 ∷ []))
  unfolding at
  four_apart whole w u v x0 x1 x2 x3 y0 y1 y2 y3 w_is u_is v_is x0_is x2_is x1_is x3_is y0_is y1_is y2_is y3_is =
      let some = prime_some p prime in
      let mid : ℕ → ℤ = at (x0 ∷ x1 ∷ x2 ∷ x3 ∷ []) in
      let parts : ℕ → ℤ = at (y0 ∷ y1 ∷ y2 ∷ y3 ∷ []) in
      let first : Halves p (node p (suc d) (2 * j)) 2 1 whole mid (λ t. mid (2 + t)) = rw (← w_is)
      (halves_apart p w 2 whole mid (λ t. mid (2 + t))
      (below_two (λ t. Congruent p (mid t) (whole t +ℤ pos w *ℤ whole (2 + t))) (from_residue p x0 (whole 0 +ℤ pos w *ℤ whole 2) some x0_is) (from_residue p x1 (whole 1 +ℤ pos w *ℤ whole 3) some x1_is))
      (below_two (λ t. Congruent p (mid (2 + t)) (whole t -ℤ pos w *ℤ whole (2 + t))) (from_residue p x2 (whole 0 -ℤ pos w *ℤ whole 2) some x2_is) (from_residue p x3 (whole 1 -ℤ pos w *ℤ whole 3) some x3_is))) in
      let second : Halves p (node p (suc (suc d)) (2 * (2 * j))) 1 1 mid parts (λ t. parts (1 + t)) = rw (← u_is)
      (halves_apart p u 1 mid parts (λ t. parts (1 + t))
      (below_one (λ t. Congruent p (parts t) (mid t +ℤ pos u *ℤ mid (1 + t))) (from_residue p y0 (pos x0 +ℤ pos u *ℤ pos x1) some y0_is))
      (below_one (λ t. Congruent p (parts (1 + t)) (mid t -ℤ pos u *ℤ mid (1 + t))) (from_residue p y1 (pos x0 -ℤ pos u *ℤ pos x1) some y1_is))) in
      let third : Halves p (node p (suc (suc d)) (2 * (2 * j + 1))) 1 1 (λ t. mid (2 + t)) (λ t. parts (2 + t)) (λ t. parts (3 + t)) = rw (← v_is)
      (halves_apart p v 1 (λ t. mid (2 + t)) (λ t. parts (2 + t)) (λ t. parts (3 + t))
      (below_one (λ t. Congruent p (parts (2 + t)) (mid (2 + t) +ℤ pos v *ℤ mid (2 + (1 + t)))) (from_residue p y2 (pos x2 +ℤ pos v *ℤ pos x3) some y2_is))
      (below_one (λ t. Congruent p (parts (3 + t)) (mid (2 + t) -ℤ pos v *ℤ mid (2 + (1 + t)))) (from_residue p y3 (pos x2 -ℤ pos v *ℤ pos x3) some y3_is))) in
      four_parts p d j 1 whole mid parts prime deep first second third

  -- and its inverse
  pub four_joined : (parts : ℕ → ℤ) (w u v x0 x1 x2 x3 y0 y1 y2 y3 : ℕ) → w ≡ inverse_node p (suc d) (2 * j) → u ≡ inverse_node p (suc (suc d)) (2 * (2 * j)) → v ≡ inverse_node p (suc (suc d)) (2 * (2 * j + 1))
      → x0 ≡ residue p (parts 0 +ℤ parts 1) → x1 ≡ residue p ((parts 0 -ℤ parts 1) *ℤ pos u)
      → x2 ≡ residue p (parts 2 +ℤ parts 3) → x3 ≡ residue p ((parts 2 -ℤ parts 3) *ℤ pos v)
      → y0 ≡ residue p (pos x0 +ℤ pos x2) → y2 ≡ residue p ((pos x0 -ℤ pos x2) *ℤ pos w)
      → y1 ≡ residue p (pos x1 +ℤ pos x3) → y3 ≡ residue p ((pos x1 -ℤ pos x3) *ℤ pos w)
      → Remainders p 1 2 d j 4 (at (y0 ∷ y1 ∷ y2 ∷ y3 ∷ [])) parts
  unfolding at
  four_joined parts w u v x0 x1 x2 x3 y0 y1 y2 y3 w_is u_is v_is x0_is x1_is x2_is x3_is y0_is y2_is y1_is y3_is =
      let some = prime_some p prime in
      let mid : ℕ → ℤ = at (x0 ∷ x1 ∷ x2 ∷ x3 ∷ []) in
      let whole : ℕ → ℤ = at (y0 ∷ y1 ∷ y2 ∷ y3 ∷ []) in
      let one_w : Congruent p (pos (node p (suc d) (2 * j)) *ℤ pos w) (pos 1) = rw w_is (node_inverse p (suc d) (2 * j) prime (omega arith)) in
      let one_u : Congruent p (pos (node p (suc (suc d)) (2 * (2 * j))) *ℤ pos u) (pos 1) = rw u_is (node_inverse p (suc (suc d)) (2 * (2 * j)) prime (omega arith)) in
      let one_v : Congruent p (pos (node p (suc (suc d)) (2 * (2 * j + 1))) *ℤ pos v) (pos 1) = rw v_is (node_inverse p (suc (suc d)) (2 * (2 * j + 1)) prime (omega arith)) in
      let first : Halves p (node p (suc d) (2 * j)) 2 2 whole mid (λ t. mid (2 + t)) = halves_joined p (node p (suc d) (2 * j)) w 2 whole mid (λ t. mid (2 + t)) one_w
      (below_two (λ t. Congruent p (whole t) (mid t +ℤ mid (2 + t))) (from_residue p y0 (pos x0 +ℤ pos x2) some y0_is) (from_residue p y1 (pos x1 +ℤ pos x3) some y1_is))
      (below_two (λ t. Congruent p (whole (2 + t)) ((mid t -ℤ mid (2 + t)) *ℤ pos w)) (from_residue p y2 ((pos x0 -ℤ pos x2) *ℤ pos w) some y2_is) (from_residue p y3 ((pos x1 -ℤ pos x3) *ℤ pos w) some y3_is)) in
      let second : Halves p (node p (suc (suc d)) (2 * (2 * j))) 1 2 mid parts (λ t. parts (1 + t)) = halves_joined p (node p (suc (suc d)) (2 * (2 * j))) u 1 mid parts (λ t. parts (1 + t)) one_u
      (below_one (λ t. Congruent p (mid t) (parts t +ℤ parts (1 + t))) (from_residue p x0 (parts 0 +ℤ parts 1) some x0_is))
      (below_one (λ t. Congruent p (mid (1 + t)) ((parts t -ℤ parts (1 + t)) *ℤ pos u)) (from_residue p x1 ((parts 0 -ℤ parts 1) *ℤ pos u) some x1_is)) in
      let third : Halves p (node p (suc (suc d)) (2 * (2 * j + 1))) 1 2 (λ t. mid (2 + t)) (λ t. parts (2 + t)) (λ t. parts (3 + t)) = halves_joined p (node p (suc (suc d)) (2 * (2 * j + 1))) v 1 (λ t. mid (2 + t)) (λ t. parts (2 + t)) (λ t. parts (3 + t)) one_v
      (below_one (λ t. Congruent p (mid (2 + t)) (parts (2 + t) +ℤ parts (3 + t))) (from_residue p x2 (parts 2 +ℤ parts 3) some x2_is))
      (below_one (λ t. Congruent p (mid (2 + (1 + t))) ((parts (2 + t) -ℤ parts (3 + t)) *ℤ pos v)) (from_residue p x3 ((parts 2 -ℤ parts 3) *ℤ pos v) some x3_is)) in
      four_parts p d j 2 whole mid parts prime deep first second third

-- ---- four writes

-- the four places that are written
pub four_written : (a : List ℕ) (start y0 y1 y2 y3 : ℕ) → start + 4 ≤ length a → (u : ℕ) → u < 4
    → get_or (set (set (set (set a start y0) (start + 1) y1) (start + 2) y2) (start + 3) y3) (start + u) 0 ≡ get_or (y0 ∷ y1 ∷ y2 ∷ y3 ∷ []) u 0
four_written a start y0 y1 y2 y3 room =
    let one = length-set a start y0 in
    let two = length-set (set a start y0) (start + 1) y1 in
    let three = length-set (set (set a start y0) (start + 1) y1) (start + 2) y2 in
    let zero_place : start + 0 ≡ start = omega arith in
    below_four (λ u. get_or (set (set (set (set a start y0) (start + 1) y1) (start + 2) y2) (start + 3) y3) (start + u) 0 ≡ get_or (y0 ∷ y1 ∷ y2 ∷ y3 ∷ []) u 0)
    (ap (λ (k : ℕ). get_or (set (set (set (set a start y0) (start + 1) y1) (start + 2) y2) (start + 3) y3) k 0) zero_place
    ∙ get_or-set_other (set (set (set a start y0) (start + 1) y1) (start + 2) y2) (start + 3) start y3 0 (λ e. omega arith)
    ∙ get_or-set_other (set (set a start y0) (start + 1) y1) (start + 2) start y2 0 (λ e. omega arith)
    ∙ get_or-set_other (set a start y0) (start + 1) start y1 0 (λ e. omega arith)
    ∙ get_or-set_same a start y0 0 (omega arith))
    (get_or-set_other (set (set (set a start y0) (start + 1) y1) (start + 2) y2) (start + 3) (start + 1) y3 0 (λ e. omega arith)
    ∙ get_or-set_other (set (set a start y0) (start + 1) y1) (start + 2) (start + 1) y2 0 (λ e. omega arith)
    ∙ get_or-set_same (set a start y0) (start + 1) y1 0 (omega arith))
    (get_or-set_other (set (set (set a start y0) (start + 1) y1) (start + 2) y2) (start + 3) (start + 2) y3 0 (λ e. omega arith)
    ∙ get_or-set_same (set (set a start y0) (start + 1) y1) (start + 2) y2 0 (omega arith))
    (get_or-set_same (set (set (set a start y0) (start + 1) y1) (start + 2) y2) (start + 3) y3 0 (omega arith))

-- ---- one block of a list

-- the numbers of the two entries below an entry
entry_low : (d i entry : ℕ) → entry ≡ 2 ^ d + i → 2 * entry ≡ 2 ^ suc d + 2 * i
entry_low d i entry e = omega (arith, pow-suc 2 d)

entry_high : (d i entry : ℕ) → entry ≡ 2 ^ d + i → 2 * entry + 1 ≡ 2 ^ suc d + (2 * i + 1)
entry_high d i entry e = omega (arith, pow-suc 2 d)

-- the entries that the two layers use
module _ (table : List ℕ) (entry_of : ℕ → ℕ → ℕ) (entries : (d j : ℕ) → j < 2 ^ d → 2 ^ d + j < length table → get_or table (2 ^ d + j) 0 ≡ entry_of d j)
    (d i entry : ℕ) (place : i < 2 ^ d) (room : length table ≡ 2 ^ d * 4) (entry_is : entry ≡ 2 ^ d + i) where
  pub entry_first : get_or table entry 0 ≡ entry_of d i
  entry_first = ap (λ (k : ℕ). get_or table k 0) entry_is ∙ entries d i place (omega arith)

  pub entry_second : get_or table (2 * entry) 0 ≡ entry_of (suc d) (2 * i)
  entry_second =
      ap (λ (k : ℕ). get_or table k 0) (entry_low d i entry entry_is) ∙ entries (suc d) (2 * i) (omega (arith, pow-suc 2 d)) (omega (arith, pow-suc 2 d))

  pub entry_third : get_or table (2 * entry + 1) 0 ≡ entry_of (suc d) (2 * i + 1)
  entry_third =
      ap (λ (k : ℕ). get_or table k 0) (entry_high d i entry entry_is) ∙ entries (suc d) (2 * i + 1) (omega (arith, pow-suc 2 d)) (omega (arith, pow-suc 2 d))

-- the block that was written
written_block : (a new : List ℕ) (i y0 y1 y2 y3 : ℕ) → i * 4 + 4 ≤ length a → new ≡ set (set (set (set a (i * 4) y0) (i * 4 + 1) y1) (i * 4 + 2) y2) (i * 4 + 3) y3
    → (u : ℕ) → u < 4 → at new (i * 4 + u) ≡ at (y0 ∷ y1 ∷ y2 ∷ y3 ∷ []) u
unfolding at
written_block a new i y0 y1 y2 y3 room written u h =
    ap pos (ap (λ (xs : List ℕ). get_or xs (i * 4 + u) 0) written ∙ four_written a (i * 4) y0 y1 y2 y3 room u h)

first_place : (a : List ℕ) (i : ℕ) → get_or a (i * 4) 0 ≡ get_or a (i * 4 + 0) 0
first_place a i = let e : i * 4 ≡ i * 4 + 0 = omega arith in ap (λ (k : ℕ). get_or a k 0) e

block_fits : (i w len : ℕ) → i < w → len ≡ w * 4 → i * 4 + 4 ≤ len
block_fits i w len h e = omega arith

-- What the transform does to the block.
pub part_four_done : (p d i entry : ℕ) (table a new : List ℕ) (x0 x2 x1 x3 y0 y1 y2 y3 : ℕ) → IsPrime p → d ≤ 9 → i < 2 ^ d → AreTwiddles p table → length table ≡ 2 ^ d * 4 → length a ≡ 2 ^ d * 4
    → entry ≡ 2 ^ d + i
    → x0 ≡ residue p (pos (get_or a (i * 4) 0) +ℤ pos (get_or table entry 0) *ℤ pos (get_or a (i * 4 + 2) 0))
    → x2 ≡ residue p (pos (get_or a (i * 4) 0) -ℤ pos (get_or table entry 0) *ℤ pos (get_or a (i * 4 + 2) 0))
    → x1 ≡ residue p (pos (get_or a (i * 4 + 1) 0) +ℤ pos (get_or table entry 0) *ℤ pos (get_or a (i * 4 + 3) 0))
    → x3 ≡ residue p (pos (get_or a (i * 4 + 1) 0) -ℤ pos (get_or table entry 0) *ℤ pos (get_or a (i * 4 + 3) 0))
    → y0 ≡ residue p (pos x0 +ℤ pos (get_or table (2 * entry) 0) *ℤ pos x1) → y1 ≡ residue p (pos x0 -ℤ pos (get_or table (2 * entry) 0) *ℤ pos x1)
    → y2 ≡ residue p (pos x2 +ℤ pos (get_or table (2 * entry + 1) 0) *ℤ pos x3) → y3 ≡ residue p (pos x2 -ℤ pos (get_or table (2 * entry + 1) 0) *ℤ pos x3)
    → new ≡ set (set (set (set a (i * 4) y0) (i * 4 + 1) y1) (i * 4 + 2) y2) (i * 4 + 3) y3
    → Remainders p 1 2 d i 1 (λ u. at a (i * 4 + u)) (λ u. at new (i * 4 + u))
unfolding at
part_four_done p d i entry table a new x0 x2 x1 x3 y0 y1 y2 y3 prime deep place entries room size entry_is x0_is x2_is x1_is x3_is y0_is y1_is y2_is y3_is written =
    let w = get_or table entry 0 in
    let u = get_or table (2 * entry) 0 in
    let v = get_or table (2 * entry + 1) 0 in
    let names : ℕ → ℕ → ℕ = λ d j. node p (suc d) (2 * j) in
    remainders_same p 1 2 d i 1 (λ t. at a (i * 4 + t)) (λ t. at a (i * 4 + t)) (at (y0 ∷ y1 ∷ y2 ∷ y3 ∷ [])) (λ t. at new (i * 4 + t))
    (four_apart p d i prime (omega arith) (λ t. at a (i * 4 + t)) w u v x0 x1 x2 x3 y0 y1 y2 y3
    (entry_first table names entries d i entry place room entry_is) (entry_second table names entries d i entry place room entry_is) (entry_third table names entries d i entry place room entry_is)
    (x0_is ∙ ap (λ (x : ℕ). residue p (pos x +ℤ pos w *ℤ pos (get_or a (i * 4 + 2) 0))) (first_place a i)) (x2_is ∙ ap (λ (x : ℕ). residue p (pos x -ℤ pos w *ℤ pos (get_or a (i * 4 + 2) 0))) (first_place a i))
    x1_is x3_is y0_is y1_is y2_is y3_is)
    (λ t lt. refl)
    (λ t lt. written_block a new i y0 y1 y2 y3 (block_fits i (2 ^ d) (length a) place size) written t lt)

-- What the inverse does to it.
pub join_four_done : (p d i entry : ℕ) (table a new : List ℕ) (x0 x1 x2 x3 y0 y2 y1 y3 : ℕ) → IsPrime p → d ≤ 9 → i < 2 ^ d → AreInverses p table → length table ≡ 2 ^ d * 4 → length a ≡ 2 ^ d * 4
    → entry ≡ 2 ^ d + i
    → x0 ≡ residue p (pos (get_or a (i * 4) 0) +ℤ pos (get_or a (i * 4 + 1) 0)) → x1 ≡ residue p ((pos (get_or a (i * 4) 0) -ℤ pos (get_or a (i * 4 + 1) 0)) *ℤ pos (get_or table (2 * entry) 0))
    → x2 ≡ residue p (pos (get_or a (i * 4 + 2) 0) +ℤ pos (get_or a (i * 4 + 3) 0)) → x3 ≡ residue p ((pos (get_or a (i * 4 + 2) 0) -ℤ pos (get_or a (i * 4 + 3) 0)) *ℤ pos (get_or table (2 * entry + 1) 0))
    → y0 ≡ residue p (pos x0 +ℤ pos x2) → y2 ≡ residue p ((pos x0 -ℤ pos x2) *ℤ pos (get_or table entry 0))
    → y1 ≡ residue p (pos x1 +ℤ pos x3) → y3 ≡ residue p ((pos x1 -ℤ pos x3) *ℤ pos (get_or table entry 0))
    → new ≡ set (set (set (set a (i * 4) y0) (i * 4 + 1) y1) (i * 4 + 2) y2) (i * 4 + 3) y3
    → Remainders p 1 2 d i 4 (λ u. at new (i * 4 + u)) (λ u. at a (i * 4 + u))
unfolding at
join_four_done p d i entry table a new x0 x1 x2 x3 y0 y2 y1 y3 prime deep place entries room size entry_is x0_is x1_is x2_is x3_is y0_is y2_is y1_is y3_is written =
    let w = get_or table entry 0 in
    let u = get_or table (2 * entry) 0 in
    let v = get_or table (2 * entry + 1) 0 in
    let names : ℕ → ℕ → ℕ = λ d j. inverse_node p (suc d) (2 * j) in
    remainders_same p 1 2 d i 4 (at (y0 ∷ y1 ∷ y2 ∷ y3 ∷ [])) (λ t. at new (i * 4 + t)) (λ t. at a (i * 4 + t)) (λ t. at a (i * 4 + t))
    (four_joined p d i prime (omega arith) (λ t. at a (i * 4 + t)) w u v x0 x1 x2 x3 y0 y1 y2 y3
    (entry_first table names entries d i entry place room entry_is) (entry_second table names entries d i entry place room entry_is) (entry_third table names entries d i entry place room entry_is)
    (x0_is ∙ ap (λ (x : ℕ). residue p (pos x +ℤ pos (get_or a (i * 4 + 1) 0))) (first_place a i)) (x1_is ∙ ap (λ (x : ℕ). residue p ((pos x -ℤ pos (get_or a (i * 4 + 1) 0)) *ℤ pos u)) (first_place a i))
    x2_is x3_is y0_is y2_is y1_is y3_is)
    (λ t lt. written_block a new i y0 y1 y2 y3 (block_fits i (2 ^ d) (length a) place size) written t lt)
    (λ t lt. refl)
