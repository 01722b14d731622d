use Rattle.modulus_switch.proofs.Opening.{difference_is, difference_size}
use Rattle.modulus_switch.proofs.open.scaled_difference.Goals as goal

pub returns-clause-value : goal.returns-clause-value
returns-clause-value c =
    difference_is c.args.q1 c.args.q2 c.args.b c.args.sa c.requires.q1 c.requires.q2 c.requires.number c.requires.product

pub returns-clause-size : goal.returns-clause-size
returns-clause-size c =
    rw (difference_is c.args.q1 c.args.q2 c.args.b c.args.sa c.requires.q1 c.requires.q2 c.requires.number c.requires.product)
    (difference_size c.args.q1 c.args.q2 c.args.b c.args.sa c.requires.q1 c.requires.q2 c.requires.number c.requires.product)
