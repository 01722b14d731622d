use Rattle.std.proofs.Common.{◌^◌, refl, ◌∙◌, arith}
use Rattle.spiral_sets.specs.Sets.{rows}
use Rattle.spiral_model.specs.Noise.{place_noise}
use Rattle.noise_check.proofs.SumsSoFar.{so_far-none, so_far-more, so_far-all}
use Rattle.noise_check.proofs.RowNoises.{first_term, first_read}
use Rattle.noise_check.proofs.sums.place_noise.Goals as goal

pub loop-c-init : goal.loop-c-init
loop-c-init c = record { sum = so_far-none (first_term c.args.set.now c.args.room.now c.args.index c.args.firsts.now c.args.u) (2 ^ 66); room = refl }

pub loop-c-preserved : goal.loop-c-preserved
loop-c-preserved c = record {
  sum = so_far-more (first_term c.args.set.now c.args.room.now c.args.index c.args.firsts.now c.args.u) (2 ^ 66) c.loop-c.c c.loop-c.total c.first_norm-total.result c.loop-c.invariant.sum
      (first_read c.args.set.now c.loop-c.room c.args.room.now c.args.index c.args.u c.loop-c.c c.first_norm-total.result c.args.firsts.now c.first_at-column.result.now c.loop-c.invariant.room c.first_at-column.ensures.value c.first_norm-total.ensures.value) c.first_norm-total.ensures.size;
  room = c.first_norm-total.ensures.room ∙ c.loop-c.invariant.room;
}

pub returns-clause-value : goal.returns-clause-value
unfolding place_noise
returns-clause-value c = so_far-all (first_term c.args.set.now c.args.room.now c.args.index c.args.firsts.now c.args.u) (2 ^ 66) (rows c.args.set.now) c.loop-c.c c.loop-c.total c.loop-c.invariant.sum (omega arith)
