-- An automorphism term by term: each term goes to one place, with a plus or a minus sign.
use Rattle.std.proofs.Common.{◌≡◌, ℕ, ◌+◌, ◌-◌, ◌*◌, ◌%◌, ◌<◌, ◌≤◌, ℤ, pos, ◌+ℤ◌, ◌-ℤ◌, ◌*ℤ◌, neg_ℤ, List, length, get_or, set, replicate, All, refl, sym, ◌∙◌, ap, arith, inl, inr, length-set, get_or-set_same, get_or-set_other}
use Rattle.std.proofs.lemmas.Bool.{cases_eq}
use Rattle.std.proofs.lemmas.Int.{ints}
use Rattle.negacyclic.specs.Sums.{total}
use Rattle.negacyclic.specs.Residues.{residue}
use Rattle.negacyclic.specs.Ring.{at, turn, reduced, tau_at, tau}
use Rattle.negacyclic.proofs.Sums.{total_none, total_more}
use Rattle.negacyclic.proofs.Turn.{turn_here, turn_wrapped, turn_elsewhere, turn-mod}
use Rattle.negacyclic.proofs.Congruence.{congruent_refl, congruent_add}
use Rattle.negacyclic.proofs.Residues.{residue_of_residue}
use Rattle.negacyclic.proofs.Reduction.{reduced_from_places}
use Rattle.negacyclic.proofs.Stands.{Stands, length-reduced, stands_same, stands_congruent, stands_reduced}
use Rattle.negacyclic.proofs.Lengths.{stands_zeros}

-- ---- one term

-- a place that gets nothing
untouched : (p v : ℕ) (t y : ℤ) → v < p → t ≡ pos 0 → v ≡ residue p (pos v +ℤ t *ℤ y)
untouched p v t y below none =
    let same : pos v +ℤ t *ℤ y ≡ pos v = ap (λ (z : ℤ). pos v +ℤ z *ℤ y) none ∙ nothing (pos v) y in
    sym (ap (residue p) same ∙ residue_of_residue below)
  where
    nothing : (v y : ℤ) → v +ℤ pos 0 *ℤ y ≡ v
    nothing v y = omega (arith, ints)

-- x at place e
pub power_added : (p x e : ℕ) (a : List ℕ) (v : ℕ) → 0 < p → e < length a → All (λ y. y < p) a → v ≡ residue p (pos (get_or a e 0) +ℤ pos x)
    → set a e v ≡ reduced p (length a) (λ k. at a k +ℤ turn (length a) k e *ℤ pos x)
unfolding at
power_added p x e a v some within below is =
    reduced_from_places p (length a) (λ k. pos (get_or a k 0) +ℤ turn (length a) k e *ℤ pos x) (set a e v) (length-set a e v)
    (λ k h.
    elim (cases_eq k e) [
      | inl here ↦
          ap (λ (i : ℕ). get_or (set a e v) i 0) here ∙ get_or-set_same a e v 0 within ∙ is
          ∙ ap (residue p) (sym (ap (λ (i : ℕ). pos (get_or a i 0) +ℤ turn (length a) i e *ℤ pos x) here ∙ ap (λ (t : ℤ). pos (get_or a e 0) +ℤ t *ℤ pos x) (turn_here (length a) e e (omega arith) refl) ∙ once (pos (get_or a e 0)) (pos x)))
      | inr there ↦
          get_or-set_other a e k v 0 there
          ∙ untouched p (get_or a k 0) (turn (length a) k e) (pos x) (below k 0 h) (turn_elsewhere (length a) k e (omega arith) (λ same. there (sym same)) (omega arith))
    ])
  where
    once : (u y : ℤ) → u +ℤ pos 1 *ℤ y ≡ u +ℤ y
    once u y = omega (arith, ints)

-- -x at place e - N
pub power_taken : (p x e : ℕ) (a : List ℕ) (v : ℕ) → 0 < p → length a ≤ e → e < 2 * length a → All (λ y. y < p) a → v ≡ residue p (pos (get_or a (e - length a) 0) -ℤ pos x)
    → set a (e - length a) v ≡ reduced p (length a) (λ k. at a k +ℤ turn (length a) k e *ℤ pos x)
unfolding at
power_taken p x e a v some past within below is =
    let place = e - length a in
    reduced_from_places p (length a) (λ k. pos (get_or a k 0) +ℤ turn (length a) k e *ℤ pos x) (set a place v) (length-set a place v)
    (λ k h.
    elim (cases_eq k place) [
      | inl here ↦
          ap (λ (i : ℕ). get_or (set a place v) i 0) here ∙ get_or-set_same a place v 0 (omega arith) ∙ is
          ∙ ap (residue p) (sym (ap (λ (i : ℕ). pos (get_or a i 0) +ℤ turn (length a) i e *ℤ pos x) here ∙ ap (λ (t : ℤ). pos (get_or a place 0) +ℤ t *ℤ pos x) (turn_wrapped (length a) place e within (omega arith) (omega arith)) ∙ minus (pos (get_or a place 0)) (pos x)))
      | inr there ↦
          get_or-set_other a place k v 0 there
          ∙ untouched p (get_or a k 0) (turn (length a) k e) (pos x) (below k 0 h) (turn_elsewhere (length a) k e within (omega arith) (λ same. there (omega arith)))
    ])
  where
    minus : (u y : ℤ) → u +ℤ neg_ℤ (pos 1) *ℤ y ≡ u -ℤ y
    minus u y = omega (arith, ints)

-- ---- all terms

-- what the first i terms add to place k
abbrev terms : ℕ → ℕ → ℕ → List ℕ → ℕ → ℤ
terms n g i a = λ k. total i (λ t. turn n k (g * t) *ℤ at a t)

-- none
pub no_terms : (p n g : ℕ) (a out : List ℕ) → 0 < p → out ≡ replicate n 0 → out ≡ reduced p n (terms n g 0 a)
no_terms p n g a out some is =
    is ∙ stands_same (stands_zeros p n some) (stands_reduced n (terms n g 0 a) some) (λ k h. sym (total_none (λ t. turn n k (g * t) *ℤ at a t)))

-- one more
pub one_term_more : (p n g i : ℕ) (a mid new : List ℕ) → 0 < p → mid ≡ reduced p n (terms n g i a)
    → new ≡ reduced p (length mid) (λ k. at mid k +ℤ turn (length mid) k (g * i % (2 * n)) *ℤ at a i) → new ≡ reduced p n (terms n g (i + 1) a)
one_term_more p n g i a mid new some so_far is =
    let size : length mid ≡ n = ap length so_far ∙ length-reduced p n (terms n g i a) in
    let term : ℕ → ℤ = λ k. turn n k (g * i % (2 * n)) *ℤ at a i in
    let before : Stands p n (reduced p n (terms n g i a)) (terms n g i a) = stands_reduced n (terms n g i a) some in
    is ∙ ap (λ (m : ℕ). reduced p m (λ k. at mid k +ℤ turn m k (g * i % (2 * n)) *ℤ at a i)) size
    ∙ ap (λ (xs : List ℕ). reduced p n (λ k. at xs k +ℤ term k)) so_far
    ∙ stands_same (stands_congruent (stands_reduced n (λ k. at (reduced p n (terms n g i a)) k +ℤ term k) some) (λ k h. congruent_add (before.follows.place k h) (congruent_refl (term k))))
    (stands_reduced n (terms n g (i + 1) a) some)
    (λ k h. sym (total_more i (λ t. turn n k (g * t) *ℤ at a t) ∙ ap (λ (z : ℤ). terms n g i a k +ℤ z *ℤ at a i) (sym (turn-mod n k (g * i)))))

-- all
pub all_terms : (p i g : ℕ) (a out : List ℕ) → length a ≤ i → i ≤ length a → out ≡ reduced p (length a) (terms (length a) g i a) → out ≡ tau p (length a) g a
unfolding tau tau_at
all_terms p i g a out past within is =
    let all : i ≡ length a = omega arith in is ∙ ap (λ (m : ℕ). reduced p (length a) (terms (length a) g m a)) all
