-- Invariants of loops that fill a list: place by place from place 0 on, or piece by piece.
use Rattle.std.proofs.Common.{◌≡◌, ◌≢◌, ℕ, ◌+◌, ◌*◌, ◌<◌, ◌≤◌, ℤ, pos, List, ◌++◌, length, get_or, set, take, All, map, refl, sym, ◌∙◌, ap, ap₂, subst, arith, length-set, get_or-set_same, get_or-set_other, take_all, le_refl, inl, inr}
use Rattle.std.specs.List.{range_with_len, flat_map}
use borrow.Rule.Slice.PartMut.{put_mid}
use Rattle.std.proofs.lemmas.Bool.{cases_eq, cases_lt}
use Rattle.std.proofs.lemmas.List.{ext_get_or, same_lists}
use Rattle.std.proofs.lemmas.List.Edits.{fill_by_more}
use Rattle.std.proofs.lemmas.List.Elements.{All-same}
use Rattle.std.proofs.lemmas.List.FromFn.{length-map-range_with_len}
use Rattle.std.proofs.lemmas.Slice.{take-put_mid}
use Rattle.negacyclic.specs.Residues.{residue}
use Rattle.negacyclic.specs.Ring.{at, reduced}
use Rattle.negacyclic.proofs.Stands.{reduced_below}
use Rattle.negacyclic.proofs.Lists.{flat_map-more, at_range}

-- ---- place by place

-- The places below i hold f, and the others what they held before.
pub record Filled {A : Type 0} (f : ℕ → A) (old : List A) (i : ℕ) (xs : List A) : Type 0 where
  pub count : length xs ≡ length old
  pub within : i ≤ length old
  pub done : (k : ℕ) (d : A) → k < i → get_or xs k d ≡ f k
  pub rest : (k : ℕ) (d : A) → i ≤ k → get_or xs k d ≡ get_or old k d

-- before the first write
pub filled_none : {A : Type 0} (f : ℕ → A) (old : List A) → Filled f old 0 old
filled_none f old = record { count = refl; within = omega arith; done = λ k d h. absurd (omega arith); rest = λ k d h. refl }

-- one more place
pub filled_more : {A : Type 0} (f : ℕ → A) (old : List A) (i : ℕ) (xs : List A) (v : A) → i < length xs → Filled f old i xs → v ≡ f i → Filled f old (i + 1) (set xs i v)
filled_more f old i xs v h so_far is =
    record {
      count = length-set xs i v ∙ so_far.count;
      within = omega (arith, so_far.count);
      done = λ k d below. rw is (fill_by_more f xs i d h (λ j lt. so_far.done j d lt) k below);
      rest = λ k d past. let ne : k ≢ i = omega arith in rw get_or-set_other (so_far.rest k d (omega arith));
    }

-- all places
pub filled_all : {A : Type 0} (f : ℕ → A) (old : List A) (i : ℕ) (xs : List A) → length old ≤ i → Filled f old i xs → xs ≡ map f (range_with_len 0 (length old))
filled_all f old i xs past so_far =
    same_lists xs (map f (range_with_len 0 (length old))) (so_far.count ∙ sym (length-map-range_with_len f 0 (length old)))
    (λ k d h.
    let below : k < length old = omega (arith, so_far.count) in
    so_far.done k d (omega arith) ∙ sym (at_range f (length old) k d below))

-- all places of a list of n
pub filled_count : {A : Type 0} (f : ℕ → A) (old : List A) (n i : ℕ) (xs : List A) → length old ≡ n → n ≤ i → Filled f old i xs → xs ≡ map f (range_with_len 0 n)
filled_count f old n i xs size past so_far =
    filled_all f old i xs (omega arith) so_far ∙ ap (λ (m : ℕ). map f (range_with_len 0 m)) size

-- all places, where f reads them from a list
pub filled_from : {A : Type 0} (from : List A) (d : A) (old : List A) (i : ℕ) (xs : List A) → length old ≤ i → length old ≡ length from
    → Filled (λ k. get_or from k d) old i xs → xs ≡ from
filled_from from d old i xs past same so_far =
    ext_get_or d xs from (so_far.count ∙ same) (λ k h. so_far.done k d (omega (arith, so_far.count)))

-- one more place, where f is a change of what stood at the place, and the code reads it there
pub filled_changed : {A : Type 0} (change : ℕ → A → A) (d : A) (old : List A) (i : ℕ) (xs : List A) (v : A) → i < length xs
    → Filled (λ k. change k (get_or old k d)) old i xs → v ≡ change i (get_or xs i d) → Filled (λ k. change k (get_or old k d)) old (i + 1) (set xs i v)
filled_changed change d old i xs v h so_far is =
    filled_more (λ k. change k (get_or old k d)) old i xs v h so_far (is ∙ ap (change i) (so_far.rest i d (le_refl i)))

-- ---- place by place, with a fact of each element that is written

-- The places below i hold f, of which P holds there, and the others what they held before.
pub record FilledWith {A : Type 0} (P : A → Type 0) (f : ℕ → A) (old : List A) (i : ℕ) (xs : List A) : Type 0 where
  pub filled : Filled f old i xs
  pub holds : (k : ℕ) (d : A) → k < i → P (get_or xs k d)

-- before the first write
pub filled_with_none : {A : Type 0} (P : A → Type 0) (f : ℕ → A) (old : List A) → FilledWith P f old 0 old
filled_with_none P f old = record { filled = filled_none f old; holds = λ k d h. absurd (omega arith) }

-- one more place
pub filled_with_more : {A : Type 0} (P : A → Type 0) (f : ℕ → A) (old : List A) (i : ℕ) (xs : List A) (v : A) → i < length xs → FilledWith P f old i xs → v ≡ f i → P v
    → FilledWith P f old (i + 1) (set xs i v)
filled_with_more P f old i xs v h so_far is fact =
    record {
      filled = filled_more f old i xs v h so_far.filled is;
      holds = λ k d below.
          elim (cases_eq k i) [
            | inl e ↦ subst P (sym (ap (λ (j : ℕ). get_or (set xs i v) j d) e ∙ get_or-set_same xs i v d h)) fact
            | inr ne ↦ subst P (sym (get_or-set_other xs i k v d ne)) (so_far.holds k d (omega arith))
          ];
    }

-- all places: the list is that of f by `filled_all`, and P holds of its elements
pub filled_with_all : {A : Type 0} (P : A → Type 0) (f : ℕ → A) (old : List A) (i : ℕ) (xs : List A) → length old ≤ i → FilledWith P f old i xs → All P xs
filled_with_all P f old i xs past so_far k d h = so_far.holds k d (omega (arith, so_far.filled.count))

-- in between P holds of all elements, where it held of those before
pub filled_with_kept : {A : Type 0} (P : A → Type 0) (f : ℕ → A) (old : List A) (i : ℕ) (xs : List A) → All P old → FilledWith P f old i xs → All P xs
filled_with_kept P f old i xs before so_far k d h =
    elim (cases_lt k i) [
      | inl below ↦ so_far.holds k d below
      | inr past ↦ subst P (sym (so_far.filled.rest k d past)) (before k d (omega (arith, so_far.filled.count)))
    ]

-- ---- a list of a record, place by place

-- `part` reads a list of a record, and `with` replaces it.
pub record IsPart {R A : Type 0} (part : R → List A) (with : R → List A → R) : Type 0 where
  pub kept : (r : R) → r ≡ with r (part r)
  pub read : (r : R) (xs : List A) → part (with r xs) ≡ xs
  pub again : (r : R) (xs ys : List A) → with (with r xs) ys ≡ with r ys

-- The list's places below i hold f, and all else is as before.
pub record FilledPart {R A : Type 0} (part : R → List A) (with : R → List A → R) (f : ℕ → A) (old : R) (i : ℕ) (new : R) : Type 0 where
  pub others : new ≡ with old (part new)
  pub filled : Filled f (part old) i (part new)

module _ {R A : Type 0} (part : R → List A) (with : R → List A → R) (is : IsPart part with) (f : ℕ → A) (old : R) where
  pub filled_part_none : FilledPart part with f old 0 old
  filled_part_none = record { others = is.kept old; filled = filled_none f (part old) }

  pub filled_part_more : (mid new : R) (i : ℕ) (v : A) → i < length (part old) → new ≡ with mid (set (part mid) i v) → v ≡ f i → FilledPart part with f old i mid
      → FilledPart part with f old (i + 1) new
  filled_part_more mid new i v within put value so_far =
      let inside : i < length (part mid) = omega (arith, so_far.filled.count) in
      let now : part new ≡ set (part mid) i v = ap part put ∙ is.read mid (set (part mid) i v) in
      record {
        others = put ∙ ap (λ (r : R). with r (set (part mid) i v)) so_far.others ∙ is.again old (part mid) (set (part mid) i v) ∙ ap (with old) (sym now);
        filled = subst (Filled f (part old) (i + 1)) (sym now) (filled_more f (part old) i (part mid) v inside so_far.filled value);
      }

  pub filled_part_all : (new : R) (n i : ℕ) → length (part old) ≡ n → n ≤ i → FilledPart part with f old i new → new ≡ with old (map f (range_with_len 0 n))
  filled_part_all new n i size past so_far = so_far.others ∙ ap (with old) (filled_count f (part old) n i (part new) size past so_far.filled)

-- ---- lists of residues

-- all places: the list of residues of f
pub filled_reduced : (q N : ℕ) (f : ℕ → ℤ) (old : List ℕ) (i : ℕ) (xs : List ℕ) → length old ≡ N → N ≤ i → Filled (λ k. residue q (f k)) old i xs → xs ≡ reduced q N f
unfolding reduced
filled_reduced q N f old i xs size past so_far =
    filled_all (λ k. residue q (f k)) old i xs (omega arith) so_far ∙ ap (λ (n : ℕ). map (λ k. residue q (f k)) (range_with_len 0 n)) size

-- each of them is below q
pub filled_residues : (q : ℕ) (f : ℕ → ℤ) (old : List ℕ) (i : ℕ) (xs : List ℕ) → 0 < q → length old ≤ i → Filled (λ k. residue q (f k)) old i xs → All (λ x. x < q) xs
filled_residues q f old i xs some past so_far =
    All-same (λ x. x < q) xs (reduced q (length old) f) (filled_reduced q (length old) f old i xs refl past so_far) (reduced_below q (length old) f some)

-- one more place of an operation on two polynomials, where the code reads the first as it stands
pub filled_combined : (q : ℕ) (op : ℤ → ℤ → ℤ) (old b : List ℕ) (i : ℕ) (xs : List ℕ) (v : ℕ) → i < length xs
    → Filled (λ k. residue q (op (at old k) (at b k))) old i xs → v ≡ residue q (op (pos (get_or xs i 0)) (pos (get_or b i 0)))
    → Filled (λ k. residue q (op (at old k) (at b k))) old (i + 1) (set xs i v)
unfolding at
filled_combined q op old b i xs v h so_far is =
    filled_changed (λ k x. residue q (op (pos x) (pos (get_or b k 0)))) 0 old i xs v h so_far is

-- ---- piece by piece

-- before the first piece
pub pieces_none : {A : Type 0} (f : ℕ → List A) (w : ℕ) (out : List A) → take (0 * w) out ≡ flat_map f (range_with_len 0 0)
pieces_none {A} f w out =
    let none : 0 * w ≡ 0 = omega arith in ap (λ (n : ℕ). take n out) none

-- one more piece of w elements, written behind the first k
pub pieces_more : {A : Type 0} (f : ℕ → List A) (w k len : ℕ) (out piece : List A) → k * w + w ≤ length out → length piece ≡ w
    → take (k * w) out ≡ flat_map f (range_with_len 0 k) → piece ≡ f k → take ((k + 1) * w) (put_mid (k * w) len out piece) ≡ flat_map f (range_with_len 0 (k + 1))
pieces_more {A} f w k len out piece room size so_far is =
    take-put_mid (k * w) len out piece ((k + 1) * w) (omega arith) (omega arith)
    ∙ ap₂ (λ (xs ys : List A). xs ++ ys) so_far is
    ∙ sym (flat_map-more f 0 k k (omega arith))

-- all pieces
pub pieces_all : {A : Type 0} (f : ℕ → List A) (w n k : ℕ) (out : List A) → length out ≡ n * w → k ≤ n → n ≤ k → take (k * w) out ≡ flat_map f (range_with_len 0 k)
    → out ≡ flat_map f (range_with_len 0 n)
pieces_all {A} f w n k out size most least so_far =
    let all : k ≡ n = omega arith in
    let whole : length out ≤ k * w = omega (arith, ap (λ (m : ℕ). m * w) all) in
    sym (take_all (k * w) out whole) ∙ so_far ∙ ap (λ (m : ℕ). flat_map f (range_with_len 0 m)) all
