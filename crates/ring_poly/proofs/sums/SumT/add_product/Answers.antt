use Rattle.std.proofs.Common.{◌≡◌, ◌∙◌, ℕ, ◌+◌, ◌*◌, ◌-◌, ◌^◌, ◌<◌, ◌≤◌, List, All, sym, ap, subst, length, arith, lit<}
use Rattle.std.proofs.lemmas.List.Elements.{All-same}
use Rattle.spiral_sets.specs.Sets.{q}
use Rattle.negacyclic.specs.Ring.{ring_add, ring_mul}
use Rattle.word_prime.specs.Halves.{p1, p2}
use Rattle.ring_poly.specs.Sums.{ProductSum}
use Rattle.ring_poly.proofs.Values.{size_of_values}
use Rattle.ring_poly.proofs.Summed.{HoldsSum, summed, product_summed, holds_again, size_of_sums, size_of_second, room_for_product}
use Rattle.ring_poly.proofs.sums.SumT.add_product.Goals as goal

pub mac_lanes-requires-clause-a_length : goal.mac_lanes-requires-clause-a_length
mac_lanes-requires-clause-a_length c =
    omega (arith, size_of_sums c.args.self.now c.self.inside.ones.items c.self.inside.twos.items c.self.inside.count c.self.view_is, size_of_values c.args.a.now c.a.inside.ones.items c.a.inside.twos.items c.a.view_is, ap length c.deref.ensures.value, ap length c.deref_mut.ensures.value, c.requires.a_degree)

pub mac_lanes-requires-clause-b_length : goal.mac_lanes-requires-clause-b_length
mac_lanes-requires-clause-b_length c =
    omega (arith, size_of_sums c.args.self.now c.self.inside.ones.items c.self.inside.twos.items c.self.inside.count c.self.view_is, size_of_values c.args.b.now c.b.inside.ones.items c.b.inside.twos.items c.b.view_is, ap length c.deref-2.ensures.value, ap length c.deref_mut.ensures.value, c.requires.b_degree)

pub mac_lanes-requires-clause-room : goal.mac_lanes-requires-clause-room
mac_lanes-requires-clause-room c =
    room_for_product p1 c.self.inside.count c.deref_mut.result.now c.deref.result.now c.deref-2.result.now (lit< tt) (let same = ap (λ (s : ProductSum). s.count) c.self.view_is in omega (arith, same, c.requires.few))
    (mac_lanes-requires-clause-a_length c) (mac_lanes-requires-clause-b_length c)
    (All-same (λ (t : ℕ). t ≤ c.self.inside.count * ((p1 - 1) * (p1 - 1))) c.deref_mut.result.now c.self.inside.ones.items c.deref_mut.ensures.value c.self.invariant.first_most)
    (All-same (λ (t : ℕ). t < p1) c.deref.result.now c.a.inside.ones.items c.deref.ensures.value c.a.invariant.first_residues)
    (All-same (λ (t : ℕ). t < p1) c.deref-2.result.now c.b.inside.ones.items c.deref-2.ensures.value c.b.invariant.first_residues)

pub mac_lanes-requires-2-clause-a_length : goal.mac_lanes-requires-2-clause-a_length
mac_lanes-requires-2-clause-a_length c =
    omega (arith, size_of_second c.args.self.now c.self.inside.ones.items c.self.inside.twos.items c.self.inside.count c.self.view_is c.self.invariant, size_of_values c.args.a.now c.a.inside.ones.items c.a.inside.twos.items c.a.view_is, c.a.invariant.same, ap length c.deref-3.ensures.value, ap length c.deref_mut-2.ensures.value, c.requires.a_degree)

pub mac_lanes-requires-2-clause-b_length : goal.mac_lanes-requires-2-clause-b_length
mac_lanes-requires-2-clause-b_length c =
    omega (arith, size_of_second c.args.self.now c.self.inside.ones.items c.self.inside.twos.items c.self.inside.count c.self.view_is c.self.invariant, size_of_values c.args.b.now c.b.inside.ones.items c.b.inside.twos.items c.b.view_is, c.b.invariant.same, ap length c.deref-4.ensures.value, ap length c.deref_mut-2.ensures.value, c.requires.b_degree)

pub mac_lanes-requires-2-clause-room : goal.mac_lanes-requires-2-clause-room
mac_lanes-requires-2-clause-room c =
    room_for_product p2 c.self.inside.count c.deref_mut-2.result.now c.deref-3.result.now c.deref-4.result.now (lit< tt) (let same = ap (λ (s : ProductSum). s.count) c.self.view_is in omega (arith, same, c.requires.few))
    (mac_lanes-requires-2-clause-a_length c) (mac_lanes-requires-2-clause-b_length c)
    (All-same (λ (t : ℕ). t ≤ c.self.inside.count * ((p2 - 1) * (p2 - 1))) c.deref_mut-2.result.now c.self.inside.twos.items c.deref_mut-2.ensures.value c.self.invariant.second_most)
    (All-same (λ (t : ℕ). t < p2) c.deref-3.result.now c.a.inside.twos.items c.deref-3.ensures.value c.a.invariant.second_residues)
    (All-same (λ (t : ℕ). t < p2) c.deref-4.result.now c.b.inside.twos.items c.deref-4.ensures.value c.b.invariant.second_residues)

-- the sums hold the sum and the product
holds : (c : goal.After-self-3-1)
    → HoldsSum (ring_add q (length c.args.self.now.value) c.args.self.now.value (ring_mul q (length c.args.self.now.value) c.args.a.now c.args.b.now)) (c.self.inside.count + 1) c.mac_lanes.new.sums c.mac_lanes-2.new.sums
holds c =
    product_summed c.args.self.now c.args.a.now c.args.b.now c.self.inside.ones.items c.self.inside.twos.items c.deref_mut.result.now c.deref_mut-2.result.now c.a.inside.ones.items c.a.inside.twos.items
    c.deref.result.now c.deref-3.result.now c.b.inside.ones.items c.b.inside.twos.items c.deref-2.result.now c.deref-4.result.now c.mac_lanes.new.sums c.mac_lanes-2.new.sums c.self.inside.count c.self.view_is c.self.invariant
    c.a.view_is c.a.invariant c.b.view_is c.b.invariant c.requires.a_degree c.requires.b_degree c.deref_mut.ensures.value c.deref_mut-2.ensures.value c.deref.ensures.value c.deref-3.ensures.value
    c.deref-2.ensures.value c.deref-4.ensures.value (let same = ap (λ (s : ProductSum). s.count) c.self.view_is in omega (arith, same, c.requires.few)) c.mac_lanes.ensures.value c.mac_lanes-2.ensures.value
    (c.mac_lanes.ensures.most c.self.inside.count
    (All-same (λ (t : ℕ). t ≤ c.self.inside.count * ((p1 - 1) * (p1 - 1))) c.deref_mut.result.now c.self.inside.ones.items c.deref_mut.ensures.value c.self.invariant.first_most)
    (All-same (λ (t : ℕ). t < p1) c.deref.result.now c.a.inside.ones.items c.deref.ensures.value c.a.invariant.first_residues)
    (All-same (λ (t : ℕ). t < p1) c.deref-2.result.now c.b.inside.ones.items c.deref-2.ensures.value c.b.invariant.first_residues))
    (c.mac_lanes-2.ensures.most c.self.inside.count
    (All-same (λ (t : ℕ). t ≤ c.self.inside.count * ((p2 - 1) * (p2 - 1))) c.deref_mut-2.result.now c.self.inside.twos.items c.deref_mut-2.ensures.value c.self.invariant.second_most)
    (All-same (λ (t : ℕ). t < p2) c.deref-3.result.now c.a.inside.twos.items c.deref-3.ensures.value c.a.invariant.second_residues)
    (All-same (λ (t : ℕ). t < p2) c.deref-4.result.now c.b.inside.twos.items c.deref-4.ensures.value c.b.invariant.second_residues))

pub invariant_of-self : goal.invariant_of-self
invariant_of-self c = (holds_again _ (c.self.inside.count + 1) c.self.inside.ones.len c.self.inside.twos.len c.mac_lanes.new.sums c.mac_lanes-2.new.sums _ _ (omega arith) (omega arith) (holds c)).valid

pub returns : goal.returns
returns c =
    (holds_again _ (c.self.inside.count + 1) c.self.inside.ones.len c.self.inside.twos.len c.mac_lanes.new.sums c.mac_lanes-2.new.sums _ _ (omega arith) (omega arith) (holds c)).view
    ∙ ap (λ (k : ℕ). summed (ring_add q (length c.args.self.now.value) c.args.self.now.value (ring_mul q (length c.args.self.now.value) c.args.a.now c.args.b.now)) k) (ap (λ (s : ProductSum). s.count + 1) c.self.view_is)
