use Rattle.std.proofs.Common.{◌+◌, ◌^◌, refl, ◌∙◌, ap, arith, if◌then◌else◌}
use Rattle.spiral_sets.specs.Sets.{rows}
use Rattle.spiral_model.specs.Noise.{selection_noise}
use Rattle.noise_check.specs.Rooms.{MeasuredRow}
use Rattle.noise_check.proofs.SumsSoFar.{so_far-none, so_far-more, so_far-all}
use Rattle.noise_check.proofs.RowNoises.{row_term}
use Rattle.noise_check.proofs.sums.selection_noise.Goals as goal

pub loop-r-init : goal.loop-r-init
loop-r-init c = record { sum = so_far-none (row_term c.args.set.now c.args.room.now (if c.args.bit then 1 else 0) c.args.gsw.now) (2 ^ 72); room = refl }

pub loop-r-preserved : goal.loop-r-preserved
loop-r-preserved c = record {
  sum = so_far-more (row_term c.args.set.now c.args.room.now (if c.args.bit then 1 else 0) c.args.gsw.now) (2 ^ 72) c.loop-r.r c.loop-r.total c.row_noise-total.result c.loop-r.invariant.sum
      (c.row_noise-total.ensures.value ∙ ap (λ (m : MeasuredRow). row_term c.args.set.now m (if c.args.bit then 1 else 0) c.args.gsw.now c.loop-r.r) c.loop-r.invariant.room) c.row_noise-total.ensures.size;
  room = c.row_noise-total.ensures.room ∙ c.loop-r.invariant.room;
}

pub returns-clause-value : goal.returns-clause-value
unfolding selection_noise
returns-clause-value c = so_far-all (row_term c.args.set.now c.args.room.now (if c.args.bit then 1 else 0) c.args.gsw.now) (2 ^ 72) (rows c.args.set.now + 1) c.loop-r.r c.loop-r.total c.loop-r.invariant.sum (omega arith)
