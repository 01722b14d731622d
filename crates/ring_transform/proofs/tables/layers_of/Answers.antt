use Rattle.std.proofs.Common.{refl, ne_eqb}
use Rattle.ring_transform.specs.Points.{depth_of}
use Rattle.ring_transform.proofs.tables.layers_of.Goals as goal

pub returns-then-degree-eq256-clause-depth : goal.returns-then-degree-eq256-clause-depth
unfolding depth_of
returns-then-degree-eq256-clause-depth c = rw c.if-degree-eq256.true refl

pub returns-else-degree-eq256-clause-depth : goal.returns-else-degree-eq256-clause-depth
unfolding depth_of
returns-else-degree-eq256-clause-depth c = rw (ne_eqb c.args.degree 256 c.if-degree-eq256.false) refl
