use Rattle.std.proofs.Common.{◌^◌, refl, ◌∙◌, ap, arith}
use Rattle.spiral_sets.specs.Sets.{places}
use Rattle.spiral_model.specs.Noise.{first_noise}
use Rattle.noise_check.specs.Rooms.{MeasuredRow}
use Rattle.noise_check.proofs.SumsSoFar.{so_far-none, so_far-more, so_far-all}
use Rattle.noise_check.proofs.RowNoises.{place_term}
use Rattle.noise_check.proofs.sums.first_noise.Goals as goal

pub loop-u-init : goal.loop-u-init
loop-u-init c = record { sum = so_far-none (place_term c.args.set.now c.args.room.now c.args.index c.args.firsts.now) (2 ^ 68); room = refl }

pub loop-u-preserved : goal.loop-u-preserved
loop-u-preserved c = record {
  sum = so_far-more (place_term c.args.set.now c.args.room.now c.args.index c.args.firsts.now) (2 ^ 68) c.loop-u.u c.loop-u.total c.place_noise-total.result c.loop-u.invariant.sum
      (c.place_noise-total.ensures.value ∙ ap (λ (m : MeasuredRow). place_term c.args.set.now m c.args.index c.args.firsts.now c.loop-u.u) c.loop-u.invariant.room) c.place_noise-total.ensures.size;
  room = c.place_noise-total.ensures.room ∙ c.loop-u.invariant.room;
}

pub returns-clause-value : goal.returns-clause-value
unfolding first_noise
returns-clause-value c = so_far-all (place_term c.args.set.now c.args.room.now c.args.index c.args.firsts.now) (2 ^ 68) (places c.args.set.now) c.loop-u.u c.loop-u.total c.loop-u.invariant.sum (omega arith)
