use Rattle.std.proofs.Common.{◌^◌, ℕ, ◌∙◌, ap}
use Rattle.query_expand.proofs.SetRounds.{first_lent}
use Rattle.query_expand.proofs.Expansions.{sides-are}
use Rattle.query_expand.proofs.expanded_parts.two_sides.Goals as goal

pub expand-requires-clause-keys : goal.expand-requires-clause-keys
expand-requires-clause-keys c =
    (first_lent c.args.ring.now c.args.scratch.now c.args.keys.now _ c.deref.result.now c.keys.view_is c.keys.invariant c.deref.ensures.value c.requires.ring
    c.requires.keys c.requires.expanding).are.keys

pub expand-requires-clause-rounds : goal.expand-requires-clause-rounds
expand-requires-clause-rounds c =
    (first_lent c.args.ring.now c.args.scratch.now c.args.keys.now _ c.deref.result.now c.keys.view_is c.keys.invariant c.deref.ensures.value c.requires.ring
    c.requires.keys c.requires.expanding).are.fit

pub returns-clause-value : goal.returns-clause-value
returns-clause-value c =
    let lent = first_lent c.args.ring.now c.args.scratch.now c.args.keys.now _ c.deref.result.now c.keys.view_is c.keys.invariant c.deref.ensures.value
    c.requires.ring c.requires.keys c.requires.expanding in
    sides-are c.args.ring.now c.args.keys.now c.args.c.now c.deref.result.now c.in_ok-expand.field-0.items lent.same c.in_ok-expand.ensures.value

pub returns-clause-many : goal.returns-clause-many
returns-clause-many c =
    let lent = first_lent c.args.ring.now c.args.scratch.now c.args.keys.now _ c.deref.result.now c.keys.view_is c.keys.invariant c.deref.ensures.value
    c.requires.ring c.requires.keys c.requires.expanding in
    c.in_ok-expand.ensures.many ∙ ap (λ (n : ℕ). 2 ^ n) lent.are.many
