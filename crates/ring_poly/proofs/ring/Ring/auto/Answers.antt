use Rattle.std.proofs.Common.{◌∙◌, sym, ap, length, arith}
use Rattle.spiral_sets.specs.Sets.{q}
use Rattle.negacyclic.proofs.Lengths.{length-tau}
use Rattle.ring_poly.proofs.Held.{size_of, image_held, held_again}
use Rattle.ring_poly.proofs.ring.Ring.auto.Goals as goal

pub auto-requires-clause-same_length : goal.auto-requires-clause-same_length
auto-requires-clause-same_length c =
    ap length c.deref_mut.ensures.value ∙ size_of c.args.out.now c.out.inside.ones.items c.out.inside.twos.items c.out.view_is ∙ c.requires.room ∙ sym c.requires.degree
    ∙ sym (size_of c.args.a.now c.a.inside.ones.items c.a.inside.twos.items c.a.view_is) ∙ sym (ap length c.deref.ensures.value)

pub auto-requires-clause-short : goal.auto-requires-clause-short
auto-requires-clause-short c = omega (arith, size_of c.args.a.now c.a.inside.ones.items c.a.inside.twos.items c.a.view_is, ap length c.deref.ensures.value, c.self.view_is)

pub auto-requires-clause-power : goal.auto-requires-clause-power
auto-requires-clause-power c = omega (arith, size_of c.args.a.now c.a.inside.ones.items c.a.inside.twos.items c.a.view_is, ap length c.deref.ensures.value)

pub auto-requires-2-clause-same_length : goal.auto-requires-2-clause-same_length
auto-requires-2-clause-same_length c =
    ap length c.deref_mut-2.ensures.value ∙ c.out.invariant.same ∙ size_of c.args.out.now c.out.inside.ones.items c.out.inside.twos.items c.out.view_is ∙ c.requires.room ∙ sym c.requires.degree
    ∙ sym (size_of c.args.a.now c.a.inside.ones.items c.a.inside.twos.items c.a.view_is) ∙ sym c.a.invariant.same ∙ sym (ap length c.deref-2.ensures.value)

pub auto-requires-2-clause-short : goal.auto-requires-2-clause-short
auto-requires-2-clause-short c =
    omega (arith, size_of c.args.a.now c.a.inside.ones.items c.a.inside.twos.items c.a.view_is, c.a.invariant.same, ap length c.deref-2.ensures.value, c.self.view_is)

pub auto-requires-2-clause-power : goal.auto-requires-2-clause-power
auto-requires-2-clause-power c = omega (arith, size_of c.args.a.now c.a.inside.ones.items c.a.inside.twos.items c.a.view_is, c.a.invariant.same, ap length c.deref-2.ensures.value)

pub auto-requires-clause-some : goal.auto-requires-clause-some
auto-requires-clause-some c = omega (arith, size_of c.args.a.now c.a.inside.ones.items c.a.inside.twos.items c.a.view_is, c.self.view_is, ap length c.deref.ensures.value)

pub auto-requires-2-clause-some : goal.auto-requires-2-clause-some
auto-requires-2-clause-some c = omega (arith, size_of c.args.a.now c.a.inside.ones.items c.a.inside.twos.items c.a.view_is, c.a.invariant.same, c.self.view_is, ap length c.deref-2.ensures.value)

pub returns-clause-value : goal.returns-clause-value
returns-clause-value c =
    held_again c.out.inside.ones.len c.out.inside.twos.len c.auto.new.out c.auto-2.new.out _ _ (omega arith) (omega arith)
    (image_held c.args.self.now c.args.a.now c.a.inside.ones.items c.a.inside.twos.items c.deref.result.now c.deref-2.result.now c.auto.new.out c.auto-2.new.out c.a.view_is c.a.invariant c.requires.degree c.deref.ensures.value
    c.deref-2.ensures.value c.args.g c.auto.ensures.value c.auto-2.ensures.value)

pub returns-clause-degree : goal.returns-clause-degree
returns-clause-degree c = ap length (returns-clause-value c) ∙ length-tau q c.args.self.now c.args.g c.args.a.now
