use Rattle.std.proofs.Common.{◌+ℤ◌, ◌*ℤ◌}
use Rattle.negacyclic.specs.Residues.{residue}
use Rattle.negacyclic.specs.Ring.{at}
use Rattle.negacyclic.proofs.Filled.{Filled}
use Rattle.word_prime.proofs.lanes.mul_add_lanes.Given as goal

abbrev pub invariant-loop-i : goal.invariant-loop-i
invariant-loop-i g l = Filled (λ k. residue g.row.P (at l.initial.sums k +ℤ at l.a k *ℤ at l.b k)) l.initial.sums l.i l.sums
