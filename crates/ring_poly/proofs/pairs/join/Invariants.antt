use Rattle.std.proofs.Common.{get_or}
use Rattle.negacyclic.proofs.Filled.{Filled}
use Rattle.word_prime.specs.Halves.{joined}
use Rattle.ring_poly.proofs.pairs.join.Given as goal

abbrev pub invariant-loop-k : goal.invariant-loop-k
invariant-loop-k l = Filled (λ k. get_or (joined l.ones l.twos) k 0) l.initial.out l.k l.out
