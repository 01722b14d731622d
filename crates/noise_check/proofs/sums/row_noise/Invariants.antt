use Rattle.std.proofs.Common.{◌≡◌, ◌^◌, if◌then◌else◌}
use Rattle.noise_check.proofs.SumsSoFar.{SoFar}
use Rattle.noise_check.proofs.RowNoises.{column_term}
use Rattle.noise_check.proofs.sums.row_noise.Given as goal

abbrev pub invariant-loop-k : goal.invariant-loop-k
invariant-loop-k l = record { sum : SoFar (column_term l.set l.fn.room (if l.bit then 1 else 0) l.gsw l.r) (2 ^ 66) l.k l.total; room : l.room ≡ l.fn.room }
