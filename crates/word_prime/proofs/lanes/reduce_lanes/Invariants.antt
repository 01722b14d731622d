use Rattle.std.proofs.Common.{◌%◌, get_or}
use Rattle.negacyclic.proofs.Filled.{Filled}
use Rattle.word_prime.proofs.lanes.reduce_lanes.Given as goal

abbrev pub invariant-loop-i : goal.invariant-loop-i
invariant-loop-i g l = Filled (λ k. get_or l.sums k 0 % g.row.P) l.initial.out l.i l.out
