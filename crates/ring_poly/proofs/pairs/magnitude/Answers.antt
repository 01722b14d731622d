use Rattle.std.proofs.Common.{◌-◌, ◌/◌, ◌<◌, ◌≤◌, sym, arith}
use Rattle.spiral_sets.specs.Sets.{q}
use Rattle.negacyclic.proofs.Reduction.{centred_low, centred_high}
use Rattle.ring_poly.proofs.Modulus.{q_is}
use Rattle.ring_poly.proofs.pairs.magnitude.Goals as goal

pub overflow_sub-result : goal.overflow_sub-result
overflow_sub-result c = omega (arith, q_is)

pub returns-then-x-clause-value : goal.returns-then-x-clause-value
returns-then-x-clause-value c =
    let low : c.args.x ≤ (q - 1) / 2 = omega (arith, q_is) in sym (centred_low q c.args.x low)

pub returns-else-x-clause-value : goal.returns-else-x-clause-value
returns-else-x-clause-value c =
    let high : (q - 1) / 2 < c.args.x = omega (arith, q_is) in omega (arith, q_is, centred_high q c.args.x c.requires high)

pub returns-then-x-clause-half : goal.returns-then-x-clause-half
returns-then-x-clause-half c = omega (arith, q_is)

pub returns-else-x-clause-half : goal.returns-else-x-clause-half
returns-else-x-clause-half c = omega (arith, q_is)
