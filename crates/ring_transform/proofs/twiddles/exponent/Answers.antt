use Rattle.ring_transform.proofs.Sizes.{exponent_step, exponent_turn}
use Rattle.ring_transform.proofs.twiddles.exponent.Goals as goal

pub returns-clause-value : goal.returns-clause-value
returns-clause-value c = exponent_step c.args.depth c.args.j c.reversed.result c.requires c.reversed.ensures.value

pub returns-clause-turn : goal.returns-clause-turn
returns-clause-turn c = exponent_turn c.args.depth c.args.j c.reversed.result c.requires c.reversed.ensures.value
