use Rattle.std.proofs.Common.{◌%◌, ◌+ℤ◌, map}
use Rattle.negacyclic.specs.Residues.{residue}
use Rattle.negacyclic.specs.Ring.{at}
use Rattle.negacyclic.proofs.Filled.{Filled}
use Rattle.word_prime.proofs.lanes.add_reduced_lanes.Given as goal

abbrev pub invariant-loop-i : goal.invariant-loop-i
invariant-loop-i g l = Filled (λ k. residue g.row.P (at l.initial.out k +ℤ at (map (λ s. s % g.row.P) l.sums) k)) l.initial.out l.i l.out
