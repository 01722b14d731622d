use Rattle.std.proofs.Common.{◌*◌, ◌^◌, arith}
use Rattle.ring_poly.proofs.Modulus.{q_is}
use Rattle.auto_switch.proofs.Multiples.{opposite}
use Rattle.auto_switch.proofs.powers.negative_power.Goals as goal

pub overflow_sub-result : goal.overflow_sub-result
overflow_sub-result c = omega (arith, q_is)

pub returns-clause-value : goal.returns-clause-value
returns-clause-value c =
    opposite (2 ^ (c.args.w * c.args.k)) c.gadget_power.result c.gadget_power.ensures.some c.gadget_power.ensures.below c.gadget_power.ensures.value

pub returns-clause-below : goal.returns-clause-below
returns-clause-below c = omega (arith, q_is, c.gadget_power.ensures.some)
