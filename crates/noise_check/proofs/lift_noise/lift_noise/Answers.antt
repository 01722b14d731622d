use Rattle.std.proofs.Common.{[], ◌^◌, refl, ◌∙◌, arith}
use Rattle.std.proofs.lemmas.List.{get_or_read}
use Rattle.spiral_model.specs.Noise.{lift_noise}
use Rattle.noise_check.proofs.SumsSoFar.{so_far-none, so_far-more, so_far-all}
use Rattle.noise_check.proofs.LiftNoises.{key_term, key_read}
use Rattle.noise_check.proofs.lift_noise.lift_noise.Goals as goal

pub loop-r-init : goal.loop-r-init
loop-r-init c = record { sum = so_far-none (key_term c.args.set.now c.args.room.now c.args.lift.now) (2 ^ 72); room = refl }

pub loop-r-preserved : goal.loop-r-preserved
loop-r-preserved c = record {
  sum = so_far-more (key_term c.args.set.now c.args.room.now c.args.lift.now) (2 ^ 72) c.loop-r.r c.loop-r.total c.lift_key_noise-total.result c.loop-r.invariant.sum
      (key_read c.args.set.now c.loop-r.room c.args.room.now c.args.lift.now c.loop-r.r c.lift_key_noise-total.result c.index-lift-r.result c.loop-r.invariant.room
      (get_or_read c.args.lift.now _ _ (omega arith) c.index-lift-r.is (record { w = 1; ciphers = [] })) c.lift_key_noise-total.ensures.value) c.lift_key_noise-total.ensures.size;
  room = c.lift_key_noise-total.ensures.room ∙ c.loop-r.invariant.room;
}

pub returns-clause-value : goal.returns-clause-value
unfolding lift_noise
returns-clause-value c =
    so_far-all (key_term c.args.set.now c.args.room.now c.args.lift.now) (2 ^ 72) (c.args.set.now.n) c.loop-r.r c.loop-r.total c.loop-r.invariant.sum (omega arith)
