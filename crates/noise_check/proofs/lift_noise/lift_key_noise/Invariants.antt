use Rattle.std.proofs.Common.{◌≡◌, ◌^◌}
use Rattle.noise_check.proofs.SumsSoFar.{SoFar}
use Rattle.noise_check.proofs.LiftNoises.{digit_term}
use Rattle.noise_check.proofs.lift_noise.lift_key_noise.Given as goal

abbrev pub invariant-loop-k : goal.invariant-loop-k
invariant-loop-k l = record { sum : SoFar (digit_term l.set l.fn.room l.key l.r) (2 ^ 66) l.k l.total; room : l.room ≡ l.fn.room }
