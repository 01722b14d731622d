-- A place of a polynomial times a power of x, from the one coefficient that comes there.
use Rattle.std.proofs.Common.{◌≡◌, ℕ, ◌+◌, ◌*◌, ◌<◌, ◌⊎◌, pos, neg_ℤ, List, length, get_or, All, sym, ◌∙◌, ap, inl, inr}
use Rattle.negacyclic.specs.Residues.{residue}
use Rattle.negacyclic.specs.Ring.{at, shift_at}
use Rattle.negacyclic.proofs.Residues.{residue_of_residue}
use Rattle.negacyclic.proofs.ShiftPlace.{shift_at-plain, shift_at-wrapped, shift_at-twice}

-- where it keeps its sign
pub power_plain : (p : ℕ) (a : List ℕ) (e k from : ℕ) → k < length a → e < 2 * length a → from < length a → All (λ x. x < p) a
    → (e + from ≡ k) ⊎ (e + from ≡ k + 2 * length a) → get_or a from 0 ≡ residue p (shift_at (length a) e (at a) k)
unfolding at
power_plain p a e k from h small within below place =
    sym (residue_of_residue (below from 0 within))
    ∙ ap (residue p)
    (sym
    (elim place [
      | inl once ↦ shift_at-plain (length a) e k from (at a) h within small once
      | inr twice ↦ shift_at-twice (length a) e k from (at a) h within small twice
    ]))

-- where it gets a minus sign
pub power_wrapped : (p : ℕ) (a : List ℕ) (e k from v : ℕ) → k < length a → e < 2 * length a → from < length a → e + from ≡ k + length a
    → v ≡ residue p (neg_ℤ (pos (get_or a from 0))) → v ≡ residue p (shift_at (length a) e (at a) k)
unfolding at
power_wrapped p a e k from v h small within place v_is =
    v_is ∙ ap (residue p) (sym (shift_at-wrapped (length a) e k from (at a) h within small place))
