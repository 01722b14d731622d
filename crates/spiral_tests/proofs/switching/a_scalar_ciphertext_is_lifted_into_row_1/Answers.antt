use Rattle.std.proofs.Common.{◌∙◌}
use Rattle.spiral_tests.proofs.Edge.{matrix_of}
use Rattle.spiral_tests.proofs.switching.a_scalar_ciphertext_is_lifted_into_row_1.Goals as goal

pub lift_row-requires-clause-out : goal.lift_row-requires-clause-out
lift_row-requires-clause-out g c =
    matrix_of c.in_ok-ring.ring c.in_ok-scratch.scratch c.in_ok-out.out c.in_ok-ring.ensures
    (c.in_ok-scratch.ensures ∙ c.edge_set.ensures.value) c.in_ok-out.ensures
