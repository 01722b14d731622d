use Rattle.std.proofs.Common.{◌^◌, ℕ, List, [], ◌∷◌, ◌∙◌, ap}
use Rattle.spiral_model.specs.KeySwitching.{DigitKey}
use Rattle.spiral_model.specs.Expansion.{expanded}
use Rattle.query_expand.proofs.SetRounds.{left_lent}
use Rattle.query_expand.proofs.expanded_parts.left_ciphers.Goals as goal

pub expand-requires-clause-keys : goal.expand-requires-clause-keys
expand-requires-clause-keys c =
    (left_lent c.args.ring.now c.args.scratch.now c.args.keys.now _ c.deref.result.now c.keys.view_is c.keys.invariant c.deref.ensures.value c.requires.ring
    c.requires.keys c.requires.expanding).are.keys

pub expand-requires-clause-rounds : goal.expand-requires-clause-rounds
expand-requires-clause-rounds c =
    (left_lent c.args.ring.now c.args.scratch.now c.args.keys.now _ c.deref.result.now c.keys.view_is c.keys.invariant c.deref.ensures.value c.requires.ring
    c.requires.keys c.requires.expanding).are.fit

pub returns-clause-value : goal.returns-clause-value
returns-clause-value c =
    let lent = left_lent c.args.ring.now c.args.scratch.now c.args.keys.now _ c.deref.result.now c.keys.view_is c.keys.invariant c.deref.ensures.value
    c.requires.ring c.requires.keys c.requires.expanding in
    c.in_ok-expand.ensures.value ∙ ap (λ (ks : List DigitKey). expanded c.args.ring.now 1 ks (c.args.side.now ∷ [])) lent.same

pub returns-clause-many : goal.returns-clause-many
returns-clause-many c =
    let lent = left_lent c.args.ring.now c.args.scratch.now c.args.keys.now _ c.deref.result.now c.keys.view_is c.keys.invariant c.deref.ensures.value
    c.requires.ring c.requires.keys c.requires.expanding in
    c.in_ok-expand.ensures.many ∙ ap (λ (n : ℕ). 2 ^ n) lent.are.many
