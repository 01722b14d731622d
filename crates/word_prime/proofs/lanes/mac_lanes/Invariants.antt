use Rattle.std.proofs.Common.{◌+◌, ◌*◌, get_or}
use Rattle.negacyclic.proofs.Filled.{Filled}
use Rattle.word_prime.proofs.lanes.mac_lanes.Given as goal

abbrev pub invariant-loop-i : goal.invariant-loop-i
invariant-loop-i g l = Filled (λ k. get_or l.initial.sums k 0 + get_or l.a k 0 * get_or l.b k 0) l.initial.sums l.i l.sums
