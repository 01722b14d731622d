use Rattle.std.proofs.Common.{◌+◌, ◌^◌, ◌∙◌, length, ap, subst, arith}
use Rattle.std.proofs.lemmas.Nat.{pow_pos}
use Rattle.negacyclic.proofs.Lists.{length-refilled}
use Rattle.ring_poly.specs.Polynomials.{IsDegree}
use Rattle.query_expand.proofs.RoundPowers.{few_rounds, count_shifted}
use Rattle.query_expand.proofs.expansion.expand.Goals as goal

pub overflow_shl-rounds : goal.overflow_shl-rounds
overflow_shl-rounds c =
    let known : IsDegree c.args.ring.now = subst IsDegree c.degree-degree.ensures.value c.degree-degree.ensures.known in
    omega (arith, few_rounds c.args.ring.now (c.args.first_round + length c.args.rounds.now) known c.requires.rounds)

pub with_zeros-requires-clause-some : goal.with_zeros-requires-clause-some
with_zeros-requires-clause-some c =
    let known : IsDegree c.args.ring.now = subst IsDegree c.degree-degree.ensures.value c.degree-degree.ensures.known in
    omega (arith, count_shifted c.args.ring.now c.args.first_round (length c.args.rounds.now) known c.requires.rounds, pow_pos (length c.args.rounds.now))

pub expand_all-requires-clause-count : goal.expand_all-requires-clause-count
expand_all-requires-clause-count c =
    let known : IsDegree c.args.ring.now = subst IsDegree c.degree-degree.ensures.value c.degree-degree.ensures.known in
    ap length c.deref_mut.ensures.value ∙ c.in_ok-ciphers.ensures.count
    ∙ count_shifted c.args.ring.now c.args.first_round (length c.args.rounds.now) known c.requires.rounds

pub returns-clause-many : goal.returns-clause-many
returns-clause-many c =
    let known : IsDegree c.args.ring.now = subst IsDegree c.degree-degree.ensures.value c.degree-degree.ensures.known in
    length-refilled c.in_ok-ciphers.ciphers.len (2 ^ length c.args.rounds.now) c.expand_all.new.ciphers _ (omega arith)
    (c.expand_all.auto.ciphers ∙ ap length c.deref_mut.ensures.value ∙ c.in_ok-ciphers.ensures.count
    ∙ count_shifted c.args.ring.now c.args.first_round (length c.args.rounds.now) known c.requires.rounds)
