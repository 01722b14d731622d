use Rattle.std.proofs.Common.{arith}
use Rattle.ring_transform.proofs.Factors.{guess_near, rest_low, rest_high, rest_small}
use Rattle.ring_transform.proofs.butterflies.product_by.Goals as goal

pub overflow_sub-rest : goal.overflow_sub-rest
overflow_sub-rest g c = (guess_near g.row.P c.args.w c.args.quotient c.args.y c.requires.modulus.0 c.requires.factor (omega arith)).0

pub overflow_cast-rest-4 : goal.overflow_cast-rest-4
overflow_cast-rest-4 g c =
    omega (arith, rest_small g.row.P c.args.w c.args.quotient c.args.y c.requires.modulus.0 c.requires.modulus.1 c.requires.factor (omega arith))

pub returns-then-rest-clause-value : goal.returns-then-rest-clause-value
returns-then-rest-clause-value g c = rest_high g.row.P c.args.w c.args.quotient c.args.y c.requires.modulus.0 c.requires.factor (omega arith) c.if-rest.true

pub returns-else-rest-clause-value : goal.returns-else-rest-clause-value
returns-else-rest-clause-value g c = rest_low g.row.P c.args.w c.args.quotient c.args.y c.requires.modulus.0 c.requires.factor (omega arith) c.if-rest.false

pub returns-then-rest-clause-below : goal.returns-then-rest-clause-below
returns-then-rest-clause-below g c = let near = guess_near g.row.P c.args.w c.args.quotient c.args.y c.requires.modulus.0 c.requires.factor (omega arith) in omega (arith, near.1)
