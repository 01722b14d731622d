use Rattle.std.proofs.Common.{subst, arith}
use Rattle.std.proofs.lemmas.Nat.{pow_pos}
use Rattle.ring_poly.specs.Polynomials.{IsDegree}
use Rattle.query_expand.proofs.RoundPowers.{round_small, shifted_one, twice}
use Rattle.query_expand.proofs.halves.shift_of.Goals as goal

pub overflow_shl-result : goal.overflow_shl-result
overflow_shl-result c =
    let known : IsDegree c.args.ring.now = subst IsDegree c.degree.ensures.value c.degree.ensures.known in
    round_small c.args.ring.now c.args.round known c.requires

pub returns-clause-below : goal.returns-clause-below
returns-clause-below c =
    let known : IsDegree c.args.ring.now = subst IsDegree c.degree.ensures.value c.degree.ensures.known in
    omega (arith, shifted_one c.args.ring.now c.args.round known c.requires, pow_pos c.args.round, twice c.args.round, c.requires, c.degree.ensures.value)
