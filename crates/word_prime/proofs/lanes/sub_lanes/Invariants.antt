use Rattle.std.proofs.Common.{◌-ℤ◌}
use Rattle.negacyclic.specs.Residues.{residue}
use Rattle.negacyclic.specs.Ring.{at}
use Rattle.negacyclic.proofs.Filled.{Filled}
use Rattle.word_prime.proofs.lanes.sub_lanes.Given as goal

abbrev pub invariant-loop-i : goal.invariant-loop-i
invariant-loop-i g l = Filled (λ k. residue g.row.P (at l.initial.a k -ℤ at l.b k)) l.initial.a l.i l.a
