use Rattle.std.proofs.Common.{◌≡◌, ℕ, ◌∙◌, ap, arith}
use Rattle.spiral_model.specs.Queries.{halved}
use Rattle.pir_client.proofs.QueryNumbers.{halved-none, halved-more}
use Rattle.pir_client.proofs.query_message.halved.Goals as goal

pub loop-init : goal.loop-init
loop-init c = record { value = halved-none c.args.x c.requires; below = c.requires }

pub loop-preserved : goal.loop-preserved
loop-preserved c = record {
  value = halved-more c.loop.counter c.args.x c.loop.number c.half-number.result c.loop.invariant.value c.half-number.ensures.value;
  below = c.half-number.ensures.below;
}

pub returns-clause-value : goal.returns-clause-value
returns-clause-value c =
    let all : c.loop.counter ≡ c.args.times = omega arith in c.loop.invariant.value ∙ ap (λ (e : ℕ). halved e c.args.x) all
