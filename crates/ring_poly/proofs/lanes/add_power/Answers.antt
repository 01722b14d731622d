use Rattle.std.proofs.Common.{arith}
use Rattle.ring_poly.proofs.Terms.{power_added, power_taken}
use Rattle.ring_poly.proofs.lanes.add_power.Goals as goal

pub returns-then-e-n-clause-value : goal.returns-then-e-n-clause-value
returns-then-e-n-clause-value g c = power_added g.row.P c.args.x c.args.e c.args.a.now c.sum_of.result c.requires.modulus.0 c.if-e-n.true c.requires.residues c.sum_of.ensures.value

pub returns-else-e-n-clause-value : goal.returns-else-e-n-clause-value
returns-else-e-n-clause-value g c =
    power_taken g.row.P c.args.x c.args.e c.args.a.now c.difference_of.result c.requires.modulus.0 (omega arith) c.requires.power c.requires.residues c.difference_of.ensures.value
