use Rattle.std.proofs.Common.{◌%◌, map, get_or}
use Rattle.negacyclic.proofs.Filled.{Filled}
use Rattle.word_prime.proofs.lanes.narrow_lanes.Given as goal

abbrev pub invariant-loop-i : goal.invariant-loop-i
invariant-loop-i g l = Filled (λ k. get_or (map (λ s. s % g.row.P) l.numbers) k 0) l.initial.out l.i l.out
