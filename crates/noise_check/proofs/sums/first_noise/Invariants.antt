use Rattle.std.proofs.Common.{◌≡◌, ◌^◌}
use Rattle.noise_check.proofs.SumsSoFar.{SoFar}
use Rattle.noise_check.proofs.RowNoises.{place_term}
use Rattle.noise_check.proofs.sums.first_noise.Given as goal

abbrev pub invariant-loop-u : goal.invariant-loop-u
invariant-loop-u l = record { sum : SoFar (place_term l.set l.fn.room l.index l.firsts) (2 ^ 68) l.u l.total; room : l.room ≡ l.fn.room }
