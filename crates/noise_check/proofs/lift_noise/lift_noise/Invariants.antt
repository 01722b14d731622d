use Rattle.std.proofs.Common.{◌≡◌, ◌^◌}
use Rattle.noise_check.proofs.SumsSoFar.{SoFar}
use Rattle.noise_check.proofs.LiftNoises.{key_term}
use Rattle.noise_check.proofs.lift_noise.lift_noise.Given as goal

abbrev pub invariant-loop-r : goal.invariant-loop-r
invariant-loop-r l = record { sum : SoFar (key_term l.set l.fn.room l.lift) (2 ^ 72) l.r l.total; room : l.room ≡ l.fn.room }
