use Rattle.ring_poly.proofs.Values.{zeros_show, shown_as}
use Rattle.ring_poly.proofs.product.PolyT.zero.Goals as goal

pub invariant_of-result : goal.invariant_of-result
invariant_of-result c = (shown_as c.in_ok-zeros.ensures c.in_ok-zeros-2.ensures (zeros_show c.args.n c.requires)).valid

pub returns : goal.returns
returns c = (shown_as c.in_ok-zeros.ensures c.in_ok-zeros-2.ensures (zeros_show c.args.n c.requires)).view
