use Rattle.std.proofs.Common.{◌∙◌, ap, length, arith}
use Rattle.spiral_sets.specs.Sets.{q}
use Rattle.negacyclic.specs.Ring.{ring_add, ring_mul}
use Rattle.negacyclic.proofs.Lengths.{length-ring_add}
use Rattle.ring_poly.proofs.Values.{Shows, size_of_values, product_shown, shown_again}
use Rattle.ring_poly.proofs.ring.Ring.mul_add.Goals as goal

pub mul_add_lanes-requires-clause-a_length : goal.mul_add_lanes-requires-clause-a_length
mul_add_lanes-requires-clause-a_length c =
    omega (arith, size_of_values c.args.sum.now c.sum.inside.ones.items c.sum.inside.twos.items c.sum.view_is, size_of_values c.args.a.now c.a.inside.ones.items c.a.inside.twos.items c.a.view_is, ap length c.deref.ensures.value, ap length c.deref_mut.ensures.value)

pub mul_add_lanes-requires-clause-b_length : goal.mul_add_lanes-requires-clause-b_length
mul_add_lanes-requires-clause-b_length c =
    omega (arith, size_of_values c.args.sum.now c.sum.inside.ones.items c.sum.inside.twos.items c.sum.view_is, size_of_values c.args.b.now c.b.inside.ones.items c.b.inside.twos.items c.b.view_is, ap length c.deref-2.ensures.value, ap length c.deref_mut.ensures.value)

pub mul_add_lanes-requires-2-clause-a_length : goal.mul_add_lanes-requires-2-clause-a_length
mul_add_lanes-requires-2-clause-a_length c =
    omega (arith, size_of_values c.args.sum.now c.sum.inside.ones.items c.sum.inside.twos.items c.sum.view_is, size_of_values c.args.a.now c.a.inside.ones.items c.a.inside.twos.items c.a.view_is, c.sum.invariant.same, c.a.invariant.same, ap length c.deref-3.ensures.value, ap length c.deref_mut-2.ensures.value)

pub mul_add_lanes-requires-2-clause-b_length : goal.mul_add_lanes-requires-2-clause-b_length
mul_add_lanes-requires-2-clause-b_length c =
    omega (arith, size_of_values c.args.sum.now c.sum.inside.ones.items c.sum.inside.twos.items c.sum.view_is, size_of_values c.args.b.now c.b.inside.ones.items c.b.inside.twos.items c.b.view_is, c.sum.invariant.same, c.b.invariant.same, ap length c.deref-4.ensures.value, ap length c.deref_mut-2.ensures.value)

-- the sums show the sum and the product
shown : (c : goal.After-sum-2-1) → Shows c.args.self.now (ring_add q c.args.self.now c.args.sum.now (ring_mul q c.args.self.now c.args.a.now c.args.b.now)) c.mul_add_lanes.new.sums c.mul_add_lanes-2.new.sums
shown c =
    product_shown c.args.self.now c.args.sum.now c.args.a.now c.args.b.now c.sum.inside.ones.items c.sum.inside.twos.items c.deref_mut.result.now c.deref_mut-2.result.now
    c.a.inside.ones.items c.a.inside.twos.items c.deref.result.now c.deref-3.result.now c.b.inside.ones.items c.b.inside.twos.items c.deref-2.result.now c.deref-4.result.now
    c.mul_add_lanes.new.sums c.mul_add_lanes-2.new.sums c.sum.view_is c.sum.invariant c.a.view_is c.a.invariant c.b.view_is c.b.invariant c.requires.sum_degree c.requires.a_degree c.requires.b_degree
    c.deref_mut.ensures.value c.deref_mut-2.ensures.value c.deref.ensures.value c.deref-3.ensures.value c.deref-2.ensures.value c.deref-4.ensures.value c.mul_add_lanes.ensures.value c.mul_add_lanes-2.ensures.value

pub invariant_of-sum : goal.invariant_of-sum
invariant_of-sum c = (shown_again c.sum.inside.ones.len c.sum.inside.twos.len c.mul_add_lanes.new.sums c.mul_add_lanes-2.new.sums _ _ (omega arith) (omega arith) (shown c)).valid

pub returns-clause-value : goal.returns-clause-value
returns-clause-value c = (shown_again c.sum.inside.ones.len c.sum.inside.twos.len c.mul_add_lanes.new.sums c.mul_add_lanes-2.new.sums _ _ (omega arith) (omega arith) (shown c)).view

pub returns-clause-degree : goal.returns-clause-degree
returns-clause-degree c = ap length (returns-clause-value c) ∙ length-ring_add q c.args.self.now c.args.sum.now (ring_mul q c.args.self.now c.args.a.now c.args.b.now)
