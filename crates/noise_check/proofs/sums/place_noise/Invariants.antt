use Rattle.std.proofs.Common.{◌≡◌, ◌^◌}
use Rattle.noise_check.proofs.SumsSoFar.{SoFar}
use Rattle.noise_check.proofs.RowNoises.{first_term}
use Rattle.noise_check.proofs.sums.place_noise.Given as goal

abbrev pub invariant-loop-c : goal.invariant-loop-c
invariant-loop-c l = record { sum : SoFar (first_term l.set l.fn.room l.index l.firsts l.u) (2 ^ 66) l.c l.total; room : l.room ≡ l.fn.room }
