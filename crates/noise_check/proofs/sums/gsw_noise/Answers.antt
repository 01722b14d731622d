use Rattle.std.proofs.Common.{[], ◌^◌, refl, ◌∙◌, arith, if◌then◌else◌}
use Rattle.std.proofs.lemmas.List.{get_or_read}
use Rattle.spiral_model.specs.Noise.{gsw_noise}
use Rattle.noise_check.proofs.SumsSoFar.{so_far-none, so_far-more, so_far-all}
use Rattle.noise_check.proofs.RowNoises.{selection_term, selection_read}
use Rattle.noise_check.proofs.sums.gsw_noise.Goals as goal

pub loop-l-init : goal.loop-l-init
loop-l-init c = record { sum = so_far-none (selection_term c.args.set.now c.args.room.now c.args.index c.args.gsws.now) (2 ^ 75); room = refl }

pub loop-l-preserved : goal.loop-l-preserved
loop-l-preserved c = record {
  sum = so_far-more (selection_term c.args.set.now c.args.room.now c.args.index c.args.gsws.now) (2 ^ 75) c.loop-l.l c.loop-l.total c.selection_noise-total.result c.loop-l.invariant.sum
      (selection_read c.args.set.now c.loop-l.room c.args.room.now c.args.index c.loop-l.l (if c.selection-bit.result then 1 else 0) c.selection_noise-total.result c.args.gsws.now c.index-gsws-l.result c.loop-l.invariant.room c.selection-bit.ensures (get_or_read c.args.gsws.now _ _ (omega arith) c.index-gsws-l.is []) c.selection_noise-total.ensures.value) c.selection_noise-total.ensures.size;
  room = c.selection_noise-total.ensures.room ∙ c.loop-l.invariant.room;
}

pub returns-clause-value : goal.returns-clause-value
unfolding gsw_noise
returns-clause-value c = so_far-all (selection_term c.args.set.now c.args.room.now c.args.index c.args.gsws.now) (2 ^ 75) (c.args.set.now.nu2) c.loop-l.l c.loop-l.total c.loop-l.invariant.sum (omega arith)
