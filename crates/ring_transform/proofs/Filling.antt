-- A loop that changes a list block by block, each of `size` places.
use Rattle.std.proofs.Common.{◌≡◌, ℕ, suc, ◌+◌, ◌-◌, ◌*◌, ◌^◌, ◌<◌, ◌≤◌, ◌⊎◌, ℤ, pos, ◌+ℤ◌, ◌-ℤ◌, ◌*ℤ◌, List, ◌++◌, length, get_or, take, drop, All, refl, sym, ◌∙◌, ap, ap₂, subst, arith, inl, inr}
use borrow.Rule.Slice.PartMut.{put_mid}
use Rattle.std.proofs.lemmas.Bool.{cases_lt}
use Rattle.std.proofs.lemmas.List.{get_or_append_left, get_or-append_right, get_or-take, get_or-drop, length-take-le}
use Rattle.std.proofs.lemmas.Nat.{row_fits}
use Rattle.std.proofs.lemmas.List.Elements.{All-append, All-take, All-drop}
use Rattle.negacyclic.specs.Residues.{residue}
use Rattle.negacyclic.specs.Ring.{at, reduced}
use Rattle.negacyclic.proofs.Congruence.{Congruent, congruent_equal, congruent_trans}
use Rattle.negacyclic.proofs.Stands.{length-reduced}
use Rattle.negacyclic.proofs.Reduction.{get_or-reduced}
use Rattle.ring_transform.specs.Points.{IsPrime, node, inverse_node}
use Rattle.ring_transform.specs.Remainders.{Remainders}
use Rattle.ring_transform.specs.Tables.{AreTwiddles, AreInverses}
use Rattle.ring_transform.proofs.Nodes.{prime_some, node_inverse}
use Rattle.ring_transform.proofs.Halving.{Halves, remainders_none, remainders_more}
use Rattle.ring_transform.proofs.Blocks.{remainders_same, halves_apart, halves_joined}
use Rattle.ring_transform.proofs.Sizes.{twice}
use Rattle.ring_transform.proofs.Fours.{from_residue}

-- ---- one block of a list

-- the coefficients of block i
abbrev pub block : ℕ → ℕ → List ℕ → ℕ → ℤ
block size i a = λ u. at a (i * size + u)

-- what lies before a part that was written, in it and behind it
pub put-before : (start k j : ℕ) (xs ys : List ℕ) → j < start → start ≤ length xs → get_or (put_mid start k xs ys) j 0 ≡ get_or xs j 0
put-before start k j xs ys h within =
    get_or_append_left (take start xs) (ys ++ drop k (drop start xs)) 0 j (omega (arith, length-take-le start xs within)) ∙ get_or-take start xs j 0 h

pub put-inside : (start k u : ℕ) (xs ys : List ℕ) → u < length ys → start ≤ length xs → get_or (put_mid start k xs ys) (start + u) 0 ≡ get_or ys u 0
put-inside start k u xs ys h within =
    let place : start + u - start ≡ u = omega arith in
    get_or-append_right (take start xs) (ys ++ drop k (drop start xs)) start (start + u) 0 (length-take-le start xs within) (omega arith)
    ∙ ap (λ (i : ℕ). get_or (ys ++ drop k (drop start xs)) i 0) place
    ∙ get_or_append_left ys (drop k (drop start xs)) 0 u h

pub put-behind : (start k j : ℕ) (xs ys : List ℕ) → start + k ≤ j → length ys ≡ k → start ≤ length xs → get_or (put_mid start k xs ys) j 0 ≡ get_or xs j 0
put-behind start k j xs ys h size within =
    let place : start + (k + (j - start - k)) ≡ j = omega arith in
    get_or-append_right (take start xs) (ys ++ drop k (drop start xs)) start j 0 (length-take-le start xs within) (omega arith)
    ∙ get_or-append_right ys (drop k (drop start xs)) k (j - start) 0 size (omega arith)
    ∙ get_or-drop k (drop start xs) (j - start - k) 0
    ∙ get_or-drop start xs (k + (j - start - k)) 0
    ∙ ap (λ (i : ℕ). get_or xs i 0) place

-- the part that is written, as it was
pub mid-at : (start k u : ℕ) (xs : List ℕ) → u < k → get_or (take k (drop start xs)) u 0 ≡ get_or xs (start + u) 0
mid-at start k u xs h = get_or-take k (drop start xs) u 0 h ∙ get_or-drop start xs u 0

-- ---- block by block

-- The blocks below i relate to what they were before as R says, and the others are what they were.
pub record BlocksDone (R : ℕ → (ℕ → ℤ) → (ℕ → ℤ) → Type 0) (size i : ℕ) (old new : List ℕ) : Type 0 where
  pub done : (k : ℕ) → k < i → R k (block size k old) (block size k new)
  pub rest : (k : ℕ) → i * size ≤ k → get_or new k 0 ≡ get_or old k 0

-- R says the same of equal coefficients
pub record OfCoefficients (R : ℕ → (ℕ → ℤ) → (ℕ → ℤ) → Type 0) (size : ℕ) : Type 0 where
  pub same : (k : ℕ) (f f' g g' : ℕ → ℤ) → ((u : ℕ) → u < size → f' u ≡ f u) → ((u : ℕ) → u < size → g' u ≡ g u) → R k f g → R k f' g'

-- before the first block
pub blocks_none : (R : ℕ → (ℕ → ℤ) → (ℕ → ℤ) → Type 0) (size : ℕ) (old : List ℕ) → BlocksDone R size 0 old old
blocks_none R size old = record { done = λ k h. absurd (omega arith); rest = λ k h. refl }

-- one more block
pub blocks_more : (R : ℕ → (ℕ → ℤ) → (ℕ → ℤ) → Type 0) (size i : ℕ) (old mid new : List ℕ) → OfCoefficients R size → BlocksDone R size i old mid
    → R i (block size i mid) (block size i new) → ((k : ℕ) → (k < i * size) ⊎ (i * size + size ≤ k) → get_or new k 0 ≡ get_or mid k 0)
    → BlocksDone R size (i + 1) old new
unfolding at
blocks_more R size i old mid new kind so_far now others =
    record {
      done = λ k h.
          elim (cases_lt k i) [
            | inl before ↦
                kind.same k (block size k old) (block size k old) (block size k mid) (block size k new) (λ u lt. refl)
                (λ u lt. ap pos (others (k * size + u) (inl (row_before k i u size before lt)))) (so_far.done k before)
            | inr last ↦
                let here : k ≡ i = omega arith in
                subst (λ (j : ℕ). R j (block size j old) (block size j new)) (sym here)
                (kind.same i (block size i mid) (block size i old) (block size i new) (block size i new)
                (λ u lt. ap pos (sym (so_far.rest (i * size + u) (omega arith)))) (λ u lt. refl) now)
          ];
      rest = λ k h. others k (inr (behind i size k h)) ∙ so_far.rest k (before i size k h);
    }
  where
    row_before : (k i u size : ℕ) → k < i → u < size → k * size + u < i * size
    row_before k i u size h lt = let gap : i ≡ k + 1 + (i - k - 1) = omega arith in rw gap (omega arith)

    behind : (i size k : ℕ) → (i + 1) * size ≤ k → i * size + size ≤ k
    behind i size k h = omega arith

    before : (i size k : ℕ) → (i + 1) * size ≤ k → i * size ≤ k
    before i size k h = omega arith

-- the two relations of the layers
pub parts_kind : (p s m d f : ℕ) → OfCoefficients (λ k whole parts. Remainders p s m d k f whole parts) (2 ^ m * s)
parts_kind p s m d f =
    record { same = λ k whole whole' parts parts' same_whole same_parts known. remainders_same p s m d k f whole whole' parts parts' known same_whole same_parts }

pub wholes_kind : (p s m d f : ℕ) → OfCoefficients (λ k parts whole. Remainders p s m d k f whole parts) (2 ^ m * s)
wholes_kind p s m d f =
    record { same = λ k parts parts' whole whole' same_parts same_whole known. remainders_same p s m d k f whole whole' parts parts' known same_whole same_parts }

-- ---- the butterflies of one block

-- what they read and write in the two halves
module _ (p half : ℕ) (whole low high low' high' : List ℕ) (parted : whole ≡ low ++ high) (low_size : length low ≡ half) (high_size : length high ≡ half) where
  low_read : (t : ℕ) → t < half → at low t ≡ at whole t
  unfolding at
  low_read t h = ap pos (sym (ap (λ (xs : List ℕ). get_or xs t 0) parted ∙ get_or_append_left low high 0 t (omega arith)))

  high_read : (t : ℕ) → at high t ≡ at whole (half + t)
  unfolding at
  high_read t =
      let place : half + t - half ≡ t = omega arith in
      ap pos
      (sym
      (ap (λ (xs : List ℕ). get_or xs (half + t) 0) parted ∙ get_or-append_right low high half (half + t) 0 low_size (omega arith) ∙ ap (λ (k : ℕ). get_or high k 0) place))

  pub low_written : (f : ℤ → ℤ → ℤ) → low' ≡ reduced p (length low) (λ k. f (at low k) (at high k)) → (t : ℕ) → t < half
      → get_or (low' ++ high') t 0 ≡ residue p (f (at whole t) (at whole (half + t)))
  low_written f is t h =
      let size : length low' ≡ length low = ap length is ∙ length-reduced p (length low) (λ k. f (at low k) (at high k)) in
      get_or_append_left low' high' 0 t (omega arith)
      ∙ ap (λ (xs : List ℕ). get_or xs t 0) is
      ∙ get_or-reduced p (length low) (λ k. f (at low k) (at high k)) t (omega arith)
      ∙ ap₂ (λ (x y : ℤ). residue p (f x y)) (low_read t h) (high_read t)

  pub high_written : (f : ℤ → ℤ → ℤ) → length low' ≡ length low → high' ≡ reduced p (length low) (λ k. f (at low k) (at high k)) → (t : ℕ) → t < half
      → get_or (low' ++ high') (half + t) 0 ≡ residue p (f (at whole t) (at whole (half + t)))
  high_written f size is t h =
      let place : half + t - half ≡ t = omega arith in
      get_or-append_right low' high' half (half + t) 0 (size ∙ low_size) (omega arith)
      ∙ ap (λ (k : ℕ). get_or high' k 0) place
      ∙ ap (λ (xs : List ℕ). get_or xs t 0) is
      ∙ get_or-reduced p (length low) (λ k. f (at low k) (at high k)) t (omega arith)
      ∙ ap₂ (λ (x y : ℤ). residue p (f x y)) (low_read t h) (high_read t)

-- what holds of all elements still does where a part is written
pub put-all : (P : ℕ → Type 0) (start k : ℕ) (xs ys : List ℕ) → All P xs → All P ys → All P (put_mid start k xs ys)
put-all P start k xs ys all new =
    All-append P (take start xs) (ys ++ drop k (drop start xs)) (All-take P start xs all) (All-append P ys (drop k (drop start xs)) new (All-drop P k (drop start xs) (All-drop P start xs all)))

-- One layer of one part.
pub one_layer : (p s d j f : ℕ) (whole low high parts : ℕ → ℤ) → IsPrime p → d + 1 ≤ 11 → Halves p (node p (suc d) (2 * j)) s f whole low high
    → ((t : ℕ) → t < s → parts t ≡ low t) → ((t : ℕ) → t < s → parts (s + t) ≡ high t) → Remainders p s 1 d j f whole parts
one_layer p s d j f whole low high parts prime deep halves same_low same_high =
    let size : 2 ^ 0 * s ≡ s = omega arith in
    let factor : f * 1 ≡ f = omega arith in
    let halves' : Halves p (node p (suc d) (2 * j)) (2 ^ 0 * s) f whole low high = subst (λ (h : ℕ). Halves p (node p (suc d) (2 * j)) h f whole low high) (sym size) halves in
    subst (λ (x : ℕ). Remainders p s 1 d j x whole parts) factor
    (remainders_more p s 0 d j f 1 whole parts prime (omega arith) low high low high halves' (remainders_none p s (suc d) (2 * j) low) (remainders_none p s (suc d) (2 * j + 1) high)
    (λ t lt. same_low t (omega arith)) (λ t lt. ap (λ (h : ℕ). parts (h + t)) size ∙ same_high t (omega arith)))

-- the part that the code reads
abbrev part_read : ℕ → ℕ → ℕ → List ℕ → List ℕ
part_read half i k a = take k (drop (i * (2 * half)) a)

module _ (p d i half k entry : ℕ) (table a new written : List ℕ) (prime : IsPrime p) (deep : d + 1 ≤ 9) (place : i < 2 ^ d) (room : 2 ^ (d + 1) ≤ length table) (entry_is : entry ≡ 2 ^ d + i)
    (size : length a ≡ 2 ^ d * (2 * half)) (k_is : k ≡ 2 * half) (count : length written ≡ 2 * half) (put : new ≡ put_mid (i * (2 * half)) k a written) where
  start_within : i * (2 * half) ≤ length a
  start_within = let most = row_fits i (2 * half) (2 ^ d) (2 * half) place (omega arith) in omega arith

  old_read : (t : ℕ) → t < 2 * half → at (part_read half i k a) t ≡ at a (i * (2 * half) + t)
  unfolding at
  old_read t h = ap pos (mid-at (i * (2 * half)) k t a (omega arith))

  new_read : (t : ℕ) → t < 2 * half → at new (i * (2 * half) + t) ≡ at written t
  unfolding at
  new_read t h = ap pos (ap (λ (xs : List ℕ). get_or xs (i * (2 * half) + t) 0) put ∙ put-inside (i * (2 * half)) k t a written (omega arith) start_within)

  entry_inside : 2 ^ d + i < length table
  entry_inside = omega (arith, twice d)

  -- the transform
  pub part_block_done : AreTwiddles p table
      → ((t : ℕ) → t < half → get_or written t 0 ≡ residue p (at (part_read half i k a) t +ℤ pos (get_or table entry 0) *ℤ at (part_read half i k a) (half + t)))
      → ((t : ℕ) → t < half → get_or written (half + t) 0 ≡ residue p (at (part_read half i k a) t -ℤ pos (get_or table entry 0) *ℤ at (part_read half i k a) (half + t)))
      → Remainders p half 1 d i 1 (λ u. at a (i * (2 * half) + u)) (λ u. at new (i * (2 * half) + u))
  unfolding at
  part_block_done entries low high =
      let some = prime_some p prime in
      let w = get_or table entry 0 in
      let w_is : w ≡ node p (suc d) (2 * i) = ap (λ (e : ℕ). get_or table e 0) entry_is ∙ entries d i place entry_inside in
      let whole : ℕ → ℤ = λ u. at a (i * (2 * half) + u) in
      let halves : Halves p (node p (suc d) (2 * i)) half 1 whole (at written) (λ t. at written (half + t)) = rw (← w_is)
      (halves_apart p w half whole (at written) (λ t. at written (half + t))
      (λ t lt. from_residue p (get_or written t 0) (whole t +ℤ pos w *ℤ whole (half + t)) some (low t lt ∙ ap₂ (λ (x y : ℤ). residue p (x +ℤ pos w *ℤ y)) (old_read t (omega arith)) (old_read (half + t) (omega arith))))
      (λ t lt. from_residue p (get_or written (half + t) 0) (whole t -ℤ pos w *ℤ whole (half + t)) some (high t lt ∙ ap₂ (λ (x y : ℤ). residue p (x -ℤ pos w *ℤ y)) (old_read t (omega arith)) (old_read (half + t) (omega arith))))) in
      one_layer p half d i 1 whole (at written) (λ t. at written (half + t)) (λ u. at new (i * (2 * half) + u)) prime (omega arith) halves (λ t lt. new_read t (omega arith)) (λ t lt. new_read (half + t) (omega arith))

  -- and its inverse
  pub join_block_done : AreInverses p table
      → ((t : ℕ) → t < half → get_or written t 0 ≡ residue p (at (part_read half i k a) t +ℤ at (part_read half i k a) (half + t)))
      → ((t : ℕ) → t < half → get_or written (half + t) 0 ≡ residue p ((at (part_read half i k a) t -ℤ at (part_read half i k a) (half + t)) *ℤ pos (get_or table entry 0)))
      → Remainders p half 1 d i 2 (λ u. at new (i * (2 * half) + u)) (λ u. at a (i * (2 * half) + u))
  unfolding at
  join_block_done entries low high =
      let some = prime_some p prime in
      let v = get_or table entry 0 in
      let w = node p (suc d) (2 * i) in
      let v_is : v ≡ inverse_node p (suc d) (2 * i) = ap (λ (e : ℕ). get_or table e 0) entry_is ∙ entries d i place entry_inside in
      let one : Congruent p (pos w *ℤ pos v) (pos 1) = rw v_is (node_inverse p (suc d) (2 * i) prime (omega arith)) in
      let parts : ℕ → ℤ = λ u. at a (i * (2 * half) + u) in
      let whole : ℕ → ℤ = λ u. at new (i * (2 * half) + u) in
      let halves : Halves p w half 2 whole parts (λ t. parts (half + t)) = halves_joined p w v half whole parts (λ t. parts (half + t)) one
      (λ t lt. from_residue' (whole t) (get_or written t 0) (parts t +ℤ parts (half + t)) some (new_read t (omega arith)) (low t lt ∙ ap₂ (λ (x y : ℤ). residue p (x +ℤ y)) (old_read t (omega arith)) (old_read (half + t) (omega arith))))
      (λ t lt. from_residue' (whole (half + t)) (get_or written (half + t) 0) ((parts t -ℤ parts (half + t)) *ℤ pos v) some (new_read (half + t) (omega arith)) (high t lt ∙ ap₂ (λ (x y : ℤ). residue p ((x -ℤ y) *ℤ pos v)) (old_read t (omega arith)) (old_read (half + t) (omega arith)))) in
      one_layer p half d i 2 whole parts (λ t. parts (half + t)) parts prime (omega arith) halves (λ t lt. refl) (λ t lt. refl)
    where
      from_residue' : (x : ℤ) (r : ℕ) (z : ℤ) → 0 < p → x ≡ pos r → r ≡ residue p z → Congruent p x z
      from_residue' x r z some e is = congruent_trans (congruent_equal e) (from_residue p r z some is)
