use Rattle.std.proofs.Common.{arith, ◌^◌, ◌*◌, ◌<◌}
use Rattle.spiral_sets.specs.Sets.{q}
use Rattle.ring_poly.proofs.Modulus.{q_some, q_is}
use Rattle.gsw_code.proofs.Widths.{power-below}
use Rattle.gsw_code.proofs.intended.power_of.Goals as goal

pub returns-then-bit-clause-below : goal.returns-then-bit-clause-below
returns-then-bit-clause-below c =
    let below : 2 ^ (c.args.set.now.w_gsw * c.args.k) < q = power-below c.args.set.now c.args.k c.requires.known c.requires.digit in omega (arith, q_is)

pub returns-else-bit-clause-below : goal.returns-else-bit-clause-below
returns-else-bit-clause-below c = q_some
