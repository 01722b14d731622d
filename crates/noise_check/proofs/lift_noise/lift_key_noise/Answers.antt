use Rattle.std.proofs.Common.{◌^◌, refl, ◌∙◌, arith}
use Rattle.spiral_sets.specs.Sets.{digit_count}
use Rattle.spiral_model.specs.Noise.{lift_key_noise}
use Rattle.noise_check.proofs.SumsSoFar.{so_far-none, so_far-more, so_far-all}
use Rattle.noise_check.proofs.LiftNoises.{digit_term, digit_read}
use Rattle.noise_check.proofs.lift_noise.lift_key_noise.Goals as goal

pub loop-k-init : goal.loop-k-init
loop-k-init c = record { sum = so_far-none (digit_term c.args.set.now c.args.room.now c.args.key.now c.args.r) (2 ^ 66); room = refl }

pub loop-k-preserved : goal.loop-k-preserved
loop-k-preserved c = record {
  sum = so_far-more (digit_term c.args.set.now c.args.room.now c.args.key.now c.args.r) (2 ^ 66) c.loop-k.k c.loop-k.total c.lift_norm-total.result c.loop-k.invariant.sum
      (digit_read c.args.set.now c.loop-k.room c.args.room.now c.args.key.now c.args.r c.loop-k.k c.lift_norm-total.result c.cipher.result.now c.loop-k.invariant.room c.cipher.ensures
      c.lift_norm-total.ensures.value) c.lift_norm-total.ensures.size;
  room = c.lift_norm-total.ensures.room ∙ c.loop-k.invariant.room;
}

pub returns-clause-value : goal.returns-clause-value
unfolding lift_key_noise
returns-clause-value c =
    so_far-all (digit_term c.args.set.now c.args.room.now c.args.key.now c.args.r) (2 ^ 66) (digit_count c.args.set.now.w_conv) c.loop-k.k c.loop-k.total c.loop-k.invariant.sum
    (omega arith)
