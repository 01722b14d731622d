use Rattle.std.proofs.Common.{sym, arith}
use Rattle.negacyclic.proofs.Reduction.{residue_negated, residue_negated_zero}
use Rattle.ring_poly.proofs.lanes.negated.Goals as goal

pub returns-then-x-eq0 : goal.returns-then-x-eq0
returns-then-x-eq0 g c = sym (residue_negated_zero g.row.P c.args.x (omega arith) c.if-x-eq0.true)

pub returns-else-x-eq0 : goal.returns-else-x-eq0
returns-else-x-eq0 g c = omega (arith, residue_negated g.row.P c.args.x (omega arith) c.requires)
