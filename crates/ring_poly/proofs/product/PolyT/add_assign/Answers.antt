use Rattle.std.proofs.Common.{◌∙◌, sym, ap, length, arith}
use Rattle.spiral_sets.specs.Sets.{q}
use Rattle.negacyclic.specs.Ring.{ring_add}
use Rattle.negacyclic.proofs.Lengths.{length-ring_add}
use Rattle.ring_poly.proofs.Values.{Shows, size_of_values, sum_shown, shown_again}
use Rattle.ring_poly.proofs.product.PolyT.add_assign.Goals as goal

pub add_lanes-requires-clause-same_length : goal.add_lanes-requires-clause-same_length
add_lanes-requires-clause-same_length c =
    let one = size_of_values c.args.self.now c.self.inside.ones.items c.self.inside.twos.items c.self.view_is in
    let other = size_of_values c.args.b.now c.b.inside.ones.items c.b.inside.twos.items c.b.view_is in
    ap length c.deref.ensures.value ∙ other ∙ c.requires ∙ sym one ∙ sym (ap length c.deref_mut.ensures.value)

pub add_lanes-requires-2-clause-same_length : goal.add_lanes-requires-2-clause-same_length
add_lanes-requires-2-clause-same_length c =
    let one = size_of_values c.args.self.now c.self.inside.ones.items c.self.inside.twos.items c.self.view_is in
    let other = size_of_values c.args.b.now c.b.inside.ones.items c.b.inside.twos.items c.b.view_is in
    ap length c.deref-2.ensures.value ∙ c.b.invariant.same ∙ other ∙ c.requires ∙ sym one ∙ sym c.self.invariant.same ∙ sym (ap length c.deref_mut-2.ensures.value)

-- the sums show the sum
shown : (c : goal.After-self-2-1) → Shows (length c.args.self.now) (ring_add q (length c.args.self.now) c.args.self.now c.args.b.now) c.add_lanes.new.a c.add_lanes-2.new.a
shown c =
    sum_shown c.args.self.now c.args.b.now c.self.inside.ones.items c.self.inside.twos.items c.deref_mut.result.now c.deref_mut-2.result.now c.b.inside.ones.items c.b.inside.twos.items c.deref.result.now c.deref-2.result.now
    c.add_lanes.new.a c.add_lanes-2.new.a c.self.view_is c.self.invariant c.b.view_is c.b.invariant c.requires c.deref_mut.ensures.value c.deref_mut-2.ensures.value c.deref.ensures.value c.deref-2.ensures.value
    c.add_lanes.ensures.value c.add_lanes-2.ensures.value

pub invariant_of-self : goal.invariant_of-self
invariant_of-self c = (shown_again c.self.inside.ones.len c.self.inside.twos.len c.add_lanes.new.a c.add_lanes-2.new.a _ _ (omega arith) (omega arith) (shown c)).valid

pub returns-clause-value : goal.returns-clause-value
returns-clause-value c = (shown_again c.self.inside.ones.len c.self.inside.twos.len c.add_lanes.new.a c.add_lanes-2.new.a _ _ (omega arith) (omega arith) (shown c)).view

pub returns-clause-degree : goal.returns-clause-degree
returns-clause-degree c = ap length (returns-clause-value c) ∙ length-ring_add q (length c.args.self.now) c.args.self.now c.args.b.now
