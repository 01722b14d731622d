use Rattle.std.proofs.Common.{◌∙◌, ◌+◌, ◌*◌, ◌<◌, length, refl, subst, arith}
use Rattle.ring_poly.specs.Polynomials.{IsDegree}
use Rattle.query_expand.proofs.Rounds.{expands-none, expands-more, expands-all}
use Rattle.query_expand.proofs.RoundPowers.{few_rounds, round_within, room_for, size_small}
use Rattle.query_expand.proofs.expansion.expand_all.Goals as goal

pub loop-key-init : goal.loop-key-init
loop-key-init c = record {
  expands = expands-none c.args.ring.now c.args.first_round c.args.rounds.now c.args.ciphers.now;
  shapes = c.requires.shapes;
  image = c.requires.image;
  kept = refl;
}

pub overflow_mul-size : goal.overflow_mul-size
overflow_mul-size c =
    let known : IsDegree c.args.ring.now = subst IsDegree c.degree-degree.ensures.value c.degree-degree.ensures.known in
    omega (
      arith,
      size_small c.args.ring.now c.args.first_round (length c.args.rounds.now) c.loop-key.key-index c.loop-key.size known c.requires.rounds (omega arith)
          c.loop-key.invariant.expands.doubled,
    )

pub overflow_add-round : goal.overflow_add-round
overflow_add-round c =
    let known : IsDegree c.args.ring.now = subst IsDegree c.degree-degree.ensures.value c.degree-degree.ensures.known in
    omega (arith, few_rounds c.args.ring.now (c.args.first_round + length c.args.rounds.now) known c.requires.rounds, c.loop-key.invariant.expands.counted)

pub expand_once-requires-clause-round : goal.expand_once-requires-clause-round
expand_once-requires-clause-round c =
    round_within c.args.ring.now c.args.first_round (length c.args.rounds.now) c.loop-key.key-index c.loop-key.round (omega arith)
    c.loop-key.invariant.expands.counted c.requires.rounds

pub expand_once-requires-clause-within : goal.expand_once-requires-clause-within
expand_once-requires-clause-within c =
    room_for (length c.args.rounds.now) c.loop-key.key-index c.loop-key.size (length c.loop-key.ciphers) (omega arith) c.loop-key.invariant.expands.doubled
    (c.loop-key.auto.ciphers ∙ c.requires.count)

pub loop-key-preserved : goal.loop-key-preserved
loop-key-preserved c =
    let place : c.loop-key.key-index < length c.args.rounds.now = omega arith in
    record {
      expands =
          expands-more c.args.ring.now c.args.first_round c.args.rounds.now c.args.ciphers.now c.loop-key.key-index c.loop-key.size c.loop-key.round
          (c.loop-key.size * 2) c.loop-key.ciphers
          c.expand_once.new.ciphers c.key-item.result place c.key-item.is (omega arith) c.expand_once.ensures.value c.loop-key.invariant.expands;
      shapes = c.expand_once.ensures.shapes;
      image = c.expand_once.ensures.image;
      kept = c.expand_once.ensures.scratch ∙ c.loop-key.invariant.kept;
    }

pub returns-clause-value : goal.returns-clause-value
returns-clause-value c =
    expands-all c.args.ring.now c.args.first_round c.args.rounds.now c.args.ciphers.now c.loop-key.key-index c.loop-key.size c.loop-key.round
    c.loop-key.ciphers (omega arith)
    (c.loop-key.auto.ciphers ∙ c.requires.count) c.loop-key.invariant.expands
