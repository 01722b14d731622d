use Rattle.std.proofs.Common.{◌∙◌, sym, ap, length, arith}
use Rattle.spiral_sets.specs.Sets.{q}
use Rattle.negacyclic.proofs.Lengths.{length-ring_shift}
use Rattle.ring_poly.proofs.Held.{size_of, shifted_held, held_again}
use Rattle.ring_poly.proofs.ring.Ring.shift.Goals as goal

pub shift-requires-clause-same_length : goal.shift-requires-clause-same_length
shift-requires-clause-same_length c =
    ap length c.deref_mut.ensures.value ∙ size_of c.args.out.now c.out.inside.ones.items c.out.inside.twos.items c.out.view_is ∙ c.requires.room ∙ sym c.requires.degree
    ∙ sym (size_of c.args.a.now c.a.inside.ones.items c.a.inside.twos.items c.a.view_is) ∙ sym (ap length c.deref.ensures.value)

pub shift-requires-clause-short : goal.shift-requires-clause-short
shift-requires-clause-short c = omega (arith, size_of c.args.a.now c.a.inside.ones.items c.a.inside.twos.items c.a.view_is, ap length c.deref.ensures.value, c.self.view_is)

pub shift-requires-clause-power : goal.shift-requires-clause-power
shift-requires-clause-power c = omega (arith, size_of c.args.a.now c.a.inside.ones.items c.a.inside.twos.items c.a.view_is, ap length c.deref.ensures.value)

pub shift-requires-2-clause-same_length : goal.shift-requires-2-clause-same_length
shift-requires-2-clause-same_length c =
    ap length c.deref_mut-2.ensures.value ∙ c.out.invariant.same ∙ size_of c.args.out.now c.out.inside.ones.items c.out.inside.twos.items c.out.view_is ∙ c.requires.room ∙ sym c.requires.degree
    ∙ sym (size_of c.args.a.now c.a.inside.ones.items c.a.inside.twos.items c.a.view_is) ∙ sym c.a.invariant.same ∙ sym (ap length c.deref-2.ensures.value)

pub shift-requires-2-clause-short : goal.shift-requires-2-clause-short
shift-requires-2-clause-short c =
    omega (arith, size_of c.args.a.now c.a.inside.ones.items c.a.inside.twos.items c.a.view_is, c.a.invariant.same, ap length c.deref-2.ensures.value, c.self.view_is)

pub shift-requires-2-clause-power : goal.shift-requires-2-clause-power
shift-requires-2-clause-power c = omega (arith, size_of c.args.a.now c.a.inside.ones.items c.a.inside.twos.items c.a.view_is, c.a.invariant.same, ap length c.deref-2.ensures.value)

pub returns-clause-value : goal.returns-clause-value
returns-clause-value c =
    held_again c.out.inside.ones.len c.out.inside.twos.len c.shift.new.out c.shift-2.new.out _ _ (omega arith) (omega arith)
    (shifted_held c.args.self.now c.args.a.now c.a.inside.ones.items c.a.inside.twos.items c.deref.result.now c.deref-2.result.now c.shift.new.out c.shift-2.new.out c.a.view_is c.a.invariant c.requires.degree c.deref.ensures.value
    c.deref-2.ensures.value c.args.e c.shift.ensures.value c.shift-2.ensures.value)

pub returns-clause-degree : goal.returns-clause-degree
returns-clause-degree c = ap length (returns-clause-value c) ∙ length-ring_shift q c.args.self.now c.args.e c.args.a.now
