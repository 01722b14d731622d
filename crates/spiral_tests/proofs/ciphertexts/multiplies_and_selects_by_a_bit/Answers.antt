use Rattle.spiral_tests.proofs.Edge.{shape_of}
use Rattle.std.proofs.Common.{◌∙◌}
use Rattle.spiral_tests.proofs.ciphertexts.multiplies_and_selects_by_a_bit.Goals as goal

pub external_into-requires-clause-c : goal.external_into-requires-clause-c
external_into-requires-clause-c g c = shape_of c.in_ok-ring.ring c.in_ok-scratch.scratch c.in_ok-c.c c.in_ok-ring.ensures (c.in_ok-scratch.ensures ∙ c.edge_set-set.ensures.value) c.in_ok-c.ensures

pub external_into-requires-clause-out : goal.external_into-requires-clause-out
external_into-requires-clause-out g c = shape_of c.in_ok-ring.ring c.in_ok-scratch.scratch c.in_ok-out.out c.in_ok-ring.ensures (c.in_ok-scratch.ensures ∙ c.edge_set-set.ensures.value) c.in_ok-out.ensures

pub select_into-requires-clause-low : goal.select_into-requires-clause-low
select_into-requires-clause-low g c =
    shape_of c.in_ok-ring.ring c.external_into.new.scratch c.in_ok-low.low c.in_ok-ring.ensures (c.external_into.ensures.scratch ∙ c.in_ok-scratch.ensures ∙ c.edge_set-set.ensures.value) c.in_ok-low.ensures

pub select_into-requires-clause-high : goal.select_into-requires-clause-high
select_into-requires-clause-high g c =
    shape_of c.in_ok-ring.ring c.external_into.new.scratch c.in_ok-c.c c.in_ok-ring.ensures (c.external_into.ensures.scratch ∙ c.in_ok-scratch.ensures ∙ c.edge_set-set.ensures.value) c.in_ok-c.ensures
