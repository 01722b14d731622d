use Rattle.std.proofs.Common.{pos, ◌∙◌, sym, ap, length, arith}
use Rattle.spiral_sets.specs.Sets.{q}
use Rattle.negacyclic.proofs.Lengths.{length-ring_scale}
use Rattle.ring_poly.proofs.Held.{size_of, multiple_held, held_again}
use Rattle.ring_poly.proofs.ring.Ring.scale.Goals as goal

pub scale-requires-clause-same_length : goal.scale-requires-clause-same_length
scale-requires-clause-same_length c =
    ap length c.deref_mut.ensures.value ∙ size_of c.args.out.now c.out.inside.ones.items c.out.inside.twos.items c.out.view_is ∙ c.requires.room ∙ sym c.requires.degree
    ∙ sym (size_of c.args.a.now c.a.inside.ones.items c.a.inside.twos.items c.a.view_is) ∙ sym (ap length c.deref.ensures.value)

pub scale-requires-2-clause-same_length : goal.scale-requires-2-clause-same_length
scale-requires-2-clause-same_length c =
    ap length c.deref_mut-2.ensures.value ∙ c.out.invariant.same ∙ size_of c.args.out.now c.out.inside.ones.items c.out.inside.twos.items c.out.view_is ∙ c.requires.room ∙ sym c.requires.degree
    ∙ sym (size_of c.args.a.now c.a.inside.ones.items c.a.inside.twos.items c.a.view_is) ∙ sym c.a.invariant.same ∙ sym (ap length c.deref-2.ensures.value)

pub returns-clause-value : goal.returns-clause-value
returns-clause-value c =
    held_again c.out.inside.ones.len c.out.inside.twos.len c.scale.new.out c.scale-2.new.out _ _ (omega arith) (omega arith)
    (multiple_held c.args.self.now c.args.a.now c.a.inside.ones.items c.a.inside.twos.items c.deref.result.now c.deref-2.result.now c.scale.new.out c.scale-2.new.out c.a.view_is c.a.invariant c.requires.degree c.deref.ensures.value
    c.deref-2.ensures.value (pos c.args.z) c.scale.ensures.value c.scale-2.ensures.value)

pub returns-clause-degree : goal.returns-clause-degree
returns-clause-degree c = ap length (returns-clause-value c) ∙ length-ring_scale q c.args.self.now (pos c.args.z) c.args.a.now
