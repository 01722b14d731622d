use Rattle.ring_poly.proofs.Places.{product_by_values}
use Rattle.ring_poly.proofs.lanes.multiply.Goals as goal

pub returns-clause-value : goal.returns-clause-value
returns-clause-value g c =
    product_by_values g.row.P c.args.tables.now c.args.a.now c.args.b.now c.forward.new.a c.forward-2.new.a c.mul_lanes.new.a c.inverse.new.a c.requires.prime c.requires.degree c.requires.a_length c.requires.b_length
    c.forward.ensures.values c.forward-2.ensures.values c.mul_lanes.ensures.value c.inverse.ensures.only
