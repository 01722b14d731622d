use Rattle.std.proofs.Common.{arith}
use Rattle.ring_poly.proofs.Held.{coefficients_hold, held_again}
use Rattle.ring_poly.proofs.poly.Poly.from_coeffs.Goals as goal

pub returns : goal.returns
returns c =
    held_again _ _ c.reduce_lanes.new.out c.reduce_lanes-2.new.out _ _ (omega arith) (omega arith)
    (coefficients_hold c.args.c.now c.reduce_lanes.new.out c.reduce_lanes-2.new.out c.requires.residues c.reduce_lanes.ensures.value c.reduce_lanes-2.ensures.value)
