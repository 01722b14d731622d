use Rattle.std.proofs.Common.{◌∙◌, sym, ap, length, arith}
use Rattle.ring_poly.proofs.Held.{size_of, coefficients_hold, held_again}
use Rattle.ring_poly.proofs.Summed.{small_below, below_first}
use Rattle.ring_poly.proofs.poly.Poly.put_small.Goals as goal

pub narrow_lanes-requires-clause-same_length : goal.narrow_lanes-requires-clause-same_length
narrow_lanes-requires-clause-same_length c =
    ap length c.deref_mut.ensures.value ∙ size_of c.args.self.now c.self.inside.ones.items c.self.inside.twos.items c.self.view_is ∙ sym c.requires.same_length

pub returns : goal.returns
returns c =
    held_again c.self.inside.ones.len c.self.inside.twos.len c.narrow_lanes.new.out c.narrow_lanes-2.new.out _ _ (omega arith) (omega arith)
    (coefficients_hold c.args.c.now c.narrow_lanes.new.out c.narrow_lanes-2.new.out (small_below c.args.c.now c.requires.below) c.narrow_lanes.ensures.value c.narrow_lanes-2.ensures.value)

pub narrow_lanes-requires-clause-below : goal.narrow_lanes-requires-clause-below
narrow_lanes-requires-clause-below c = below_first c.args.c.now c.requires.below
