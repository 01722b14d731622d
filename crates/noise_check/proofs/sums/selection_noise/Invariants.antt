use Rattle.std.proofs.Common.{◌≡◌, ◌^◌, if◌then◌else◌}
use Rattle.noise_check.proofs.SumsSoFar.{SoFar}
use Rattle.noise_check.proofs.RowNoises.{row_term}
use Rattle.noise_check.proofs.sums.selection_noise.Given as goal

abbrev pub invariant-loop-r : goal.invariant-loop-r
invariant-loop-r l = record { sum : SoFar (row_term l.set l.fn.room (if l.bit then 1 else 0) l.gsw) (2 ^ 72) l.r l.total; room : l.room ≡ l.fn.room }
