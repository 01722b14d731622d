use Rattle.std.proofs.Common.{◌^◌, refl, ◌∙◌, ap, arith, if◌then◌else◌}
use Rattle.spiral_sets.specs.Sets.{digit_count}
use Rattle.spiral_model.specs.Noise.{row_noise}
use Rattle.noise_check.specs.Rooms.{MeasuredRow}
use Rattle.noise_check.proofs.SumsSoFar.{so_far-none, so_far-more, so_far-all}
use Rattle.noise_check.proofs.RowNoises.{column_term}
use Rattle.noise_check.proofs.sums.row_noise.Goals as goal

pub loop-k-init : goal.loop-k-init
loop-k-init c = record { sum = so_far-none (column_term c.args.set.now c.args.room.now (if c.args.bit then 1 else 0) c.args.gsw.now c.args.r) (2 ^ 66); room = refl }

pub loop-k-preserved : goal.loop-k-preserved
loop-k-preserved c = record {
  sum = so_far-more (column_term c.args.set.now c.args.room.now (if c.args.bit then 1 else 0) c.args.gsw.now c.args.r) (2 ^ 66) c.loop-k.k c.loop-k.total c.column_norm-total.result c.loop-k.invariant.sum
      (c.column_norm-total.ensures.value ∙ ap (λ (m : MeasuredRow). column_term c.args.set.now m (if c.args.bit then 1 else 0) c.args.gsw.now c.args.r c.loop-k.k) c.loop-k.invariant.room) c.column_norm-total.ensures.size;
  room = c.column_norm-total.ensures.room ∙ c.loop-k.invariant.room;
}

pub returns-clause-value : goal.returns-clause-value
unfolding row_noise
returns-clause-value c = so_far-all (column_term c.args.set.now c.args.room.now (if c.args.bit then 1 else 0) c.args.gsw.now c.args.r) (2 ^ 66) (digit_count c.args.set.now.w_gsw) c.loop-k.k c.loop-k.total c.loop-k.invariant.sum (omega arith)
