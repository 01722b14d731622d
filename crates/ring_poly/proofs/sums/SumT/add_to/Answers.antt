use Rattle.std.proofs.Common.{◌≡◌, ◌∙◌, ℕ, ap, length, arith}
use Rattle.spiral_sets.specs.Sets.{q}
use Rattle.negacyclic.specs.Ring.{ring_add}
use Rattle.negacyclic.proofs.Lengths.{length-ring_add}
use Rattle.ring_poly.proofs.Values.{Shows, size_of_values, shown_again}
use Rattle.ring_poly.proofs.Summed.{sum_added, size_of_sums, size_of_second}
use Rattle.ring_poly.proofs.sums.SumT.add_to.Goals as goal

pub add_reduced_lanes-requires-clause-same_length : goal.add_reduced_lanes-requires-clause-same_length
add_reduced_lanes-requires-clause-same_length c =
    omega (arith, size_of_sums c.args.self.now c.self.inside.ones.items c.self.inside.twos.items c.self.inside.count c.self.view_is, size_of_values c.args.out.now c.out.inside.ones.items c.out.inside.twos.items c.out.view_is, ap length c.deref.ensures.value, ap length c.deref_mut.ensures.value, c.requires)

pub add_reduced_lanes-requires-2-clause-same_length : goal.add_reduced_lanes-requires-2-clause-same_length
add_reduced_lanes-requires-2-clause-same_length c =
    omega (arith, size_of_second c.args.self.now c.self.inside.ones.items c.self.inside.twos.items c.self.inside.count c.self.view_is c.self.invariant, size_of_values c.args.out.now c.out.inside.ones.items c.out.inside.twos.items c.out.view_is, c.out.invariant.same, ap length c.deref-2.ensures.value, ap length c.deref_mut-2.ensures.value, c.requires)

-- the sums show the sum
shown : (c : goal.After-out-2-1) → Shows (length c.args.out.now) (ring_add q (length c.args.out.now) c.args.out.now c.args.self.now.value) c.add_reduced_lanes.new.out c.add_reduced_lanes-2.new.out
shown c =
    sum_added c.args.out.now c.args.self.now c.out.inside.ones.items c.out.inside.twos.items c.deref_mut.result.now c.deref_mut-2.result.now c.self.inside.ones.items c.self.inside.twos.items
    c.deref.result.now c.deref-2.result.now c.add_reduced_lanes.new.out c.add_reduced_lanes-2.new.out c.self.inside.count c.out.view_is c.out.invariant c.self.view_is c.self.invariant c.requires
    c.deref_mut.ensures.value c.deref_mut-2.ensures.value c.deref.ensures.value c.deref-2.ensures.value c.add_reduced_lanes.ensures.value c.add_reduced_lanes-2.ensures.value

pub invariant_of-out : goal.invariant_of-out
invariant_of-out c = (shown_again c.out.inside.ones.len c.out.inside.twos.len c.add_reduced_lanes.new.out c.add_reduced_lanes-2.new.out _ _ (omega arith) (omega arith) (shown c)).valid

pub returns-clause-value : goal.returns-clause-value
returns-clause-value c = (shown_again c.out.inside.ones.len c.out.inside.twos.len c.add_reduced_lanes.new.out c.add_reduced_lanes-2.new.out _ _ (omega arith) (omega arith) (shown c)).view

pub returns-clause-degree : goal.returns-clause-degree
returns-clause-degree c = ap length (returns-clause-value c) ∙ length-ring_add q (length c.args.out.now) c.args.out.now c.args.self.now.value
