use Rattle.std.proofs.Common.{◌∙◌, sym, ap, length, arith}
use Rattle.ring_poly.proofs.Held.{size_of, coefficients_hold, held_again}
use Rattle.ring_poly.proofs.poly.Poly.put_coeffs.Goals as goal

pub reduce_lanes-requires-clause-same_length : goal.reduce_lanes-requires-clause-same_length
reduce_lanes-requires-clause-same_length c =
    ap length c.deref_mut.ensures.value ∙ size_of c.args.self.now c.self.inside.ones.items c.self.inside.twos.items c.self.view_is ∙ sym c.requires.same_length

pub returns : goal.returns
returns c =
    held_again c.self.inside.ones.len c.self.inside.twos.len c.reduce_lanes.new.out c.reduce_lanes-2.new.out _ _ (omega arith) (omega arith)
    (coefficients_hold c.args.c.now c.reduce_lanes.new.out c.reduce_lanes-2.new.out c.requires.residues c.reduce_lanes.ensures.value c.reduce_lanes-2.ensures.value)
