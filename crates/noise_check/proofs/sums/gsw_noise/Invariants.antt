use Rattle.std.proofs.Common.{◌≡◌, ◌^◌}
use Rattle.noise_check.proofs.SumsSoFar.{SoFar}
use Rattle.noise_check.proofs.RowNoises.{selection_term}
use Rattle.noise_check.proofs.sums.gsw_noise.Given as goal

abbrev pub invariant-loop-l : goal.invariant-loop-l
invariant-loop-l l = record { sum : SoFar (selection_term l.set l.fn.room l.index l.gsws) (2 ^ 75) l.l l.total; room : l.room ≡ l.fn.room }
