use Rattle.std.proofs.Common.{ne_eqb}
use Rattle.ring_poly.proofs.Places.{constant_here, constant_elsewhere}
use Rattle.ring_poly.proofs.lanes.constant_at.Goals as goal

pub returns-then-place-eq0 : goal.returns-then-place-eq0
returns-then-place-eq0 g c = rw (c.if-place-eq0.true, c.from.ensures) (constant_here g.row.P c.args.z)

pub returns-else-place-eq0 : goal.returns-else-place-eq0
returns-else-place-eq0 g c = rw (ne_eqb c.args.place 0 c.if-place-eq0.false) (constant_elsewhere g.row.P c.requires.0)
