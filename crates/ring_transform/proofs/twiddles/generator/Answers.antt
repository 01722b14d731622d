use Rattle.std.proofs.Common.{refl, ne_eqb}
use Rattle.ring_transform.specs.Points.{generator}
use Rattle.ring_transform.proofs.twiddles.generator.Goals as goal

pub returns-then-this-eq-P1-clause-value : goal.returns-then-this-eq-P1-clause-value
unfolding generator
returns-then-this-eq-P1-clause-value g c = rw c.if-this-eq-P1.true refl

pub returns-else-this-eq-P1-clause-value : goal.returns-else-this-eq-P1-clause-value
unfolding generator
returns-else-this-eq-P1-clause-value g c = rw (ne_eqb g.row.P 268369921 c.if-this-eq-P1.false) refl
