use Rattle.std.proofs.Common.{◌+◌, ◌^◌, ◌≤◌, arith}
use Rattle.key_deal.proofs.SetNumbers.{round_small, automorphism-odd, automorphism-below, degree-most}
use Rattle.key_deal.proofs.rounds.automorphism.Goals as goal

pub overflow_shr-result : goal.overflow_shr-result
overflow_shr-result c =
    let within : 2 ^ (c.args.j + 1) ≤ c.degree.result = omega (arith, c.degree.ensures.value, c.requires) in
    omega (arith, round_small c.degree.result c.args.j (degree-most c.degree.result c.degree.ensures.known) within)

pub returns-clause-odd : goal.returns-clause-odd
returns-clause-odd c =
    let within : 2 ^ (c.args.j + 1) ≤ c.degree.result = omega (arith, c.degree.ensures.value, c.requires) in
    automorphism-odd c.degree.result c.args.j c.degree.ensures.known within

pub returns-clause-below : goal.returns-clause-below
returns-clause-below c = omega (arith, automorphism-below c.degree.result c.args.j c.degree.ensures.known, c.degree.ensures.value)
