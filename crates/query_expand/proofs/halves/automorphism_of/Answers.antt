use Rattle.std.proofs.Common.{◌+◌, ◌/◌, ◌%◌, ℕ, ◌∙◌, ap₂, subst, arith}
use Rattle.std.proofs.lemmas.Nat.{pow_pos}
use Rattle.ring_poly.specs.Polynomials.{IsDegree}
use Rattle.query_expand.proofs.RoundPowers.{power_odd, round_small, shifted_one}
use Rattle.query_expand.proofs.halves.automorphism_of.Goals as goal

pub overflow_shl-result : goal.overflow_shl-result
overflow_shl-result c =
    let known : IsDegree c.args.ring.now = subst IsDegree c.degree.ensures.value c.degree.ensures.known in
    round_small c.args.ring.now c.args.round known c.requires

pub nonzero_div-result : goal.nonzero_div-result
nonzero_div-result c =
    let known : IsDegree c.args.ring.now = subst IsDegree c.degree.ensures.value c.degree.ensures.known in
    omega (arith, shifted_one c.args.ring.now c.args.round known c.requires, pow_pos c.args.round)

pub returns-clause-value : goal.returns-clause-value
returns-clause-value c =
    let known : IsDegree c.args.ring.now = subst IsDegree c.degree.ensures.value c.degree.ensures.known in
    ap₂ (λ (n p : ℕ). n / p + 1) c.degree.ensures.value (shifted_one c.args.ring.now c.args.round known c.requires)

pub returns-clause-odd : goal.returns-clause-odd
returns-clause-odd c =
    let known : IsDegree c.args.ring.now = subst IsDegree c.degree.ensures.value c.degree.ensures.known in
    ap₂ (λ (n p : ℕ). (n / p + 1) % 2) c.degree.ensures.value (shifted_one c.args.ring.now c.args.round known c.requires)
    ∙ power_odd c.args.ring.now c.args.round known c.requires
