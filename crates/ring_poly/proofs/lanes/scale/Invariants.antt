use Rattle.std.proofs.Common.{pos, ◌*ℤ◌}
use Rattle.negacyclic.specs.Residues.{residue}
use Rattle.negacyclic.specs.Ring.{at}
use Rattle.negacyclic.proofs.Filled.{Filled}
use Rattle.ring_poly.proofs.lanes.scale.Given as goal

abbrev pub invariant-loop-k : goal.invariant-loop-k
invariant-loop-k g l = Filled (λ k. residue g.row.P (pos l.z *ℤ at l.a k)) l.initial.out l.k l.out
