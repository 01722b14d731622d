use Rattle.ring_poly.proofs.Held.{zeros_hold}
use Rattle.ring_poly.proofs.poly.Poly.zero.Goals as goal

pub returns : goal.returns
returns c = (zeros_hold c.args.n c.in_ok-zeros.field-0.items c.in_ok-zeros-2.field-0.items c.in_ok-zeros.ensures c.in_ok-zeros-2.ensures).view
