use Rattle.std.proofs.Common.{◌∙◌}
use Rattle.spiral_tests.proofs.Pack.{matrices_of}
use Rattle.spiral_tests.proofs.packing.lifts.Goals as goal

pub returns : goal.returns
returns g c =
    matrices_of c.in_ok-ring.ring c.in_ok-scratch.scratch c.in_ok-lift_matrix.field-0.items c.in_ok-ring.ensures
    (c.in_ok-scratch.ensures ∙ c.pack_set.ensures.value) c.in_ok-lift_matrix.ensures.shapes
