use Rattle.ring_transform.proofs.Sizes.{reversed_none, reversed_step, reversed_within}
use Rattle.ring_transform.proofs.twiddles.+reversed.Goals as goal

pub returns-then-bits-eq0-clause-value : goal.returns-then-bits-eq0-clause-value
returns-then-bits-eq0-clause-value t c = reversed_none c.args.bits c.args.j c.if-bits-eq0.true

pub returns-clause-value : goal.returns-clause-value
returns-clause-value t c = reversed_step c.args.bits c.args.j c.reversed.result c.requires c.if-bits-eq0.false c.reversed.ensures.value

pub returns-clause-below : goal.returns-clause-below
returns-clause-below t c = reversed_within c.args.bits c.args.j c.reversed.result c.requires c.if-bits-eq0.false c.reversed.ensures.below
