use Rattle.std.proofs.Common.{pos, ◌*ℤ◌}
use Rattle.negacyclic.specs.Residues.{residue}
use Rattle.negacyclic.specs.Ring.{at}
use Rattle.negacyclic.proofs.Filled.{Filled}
use Rattle.ring_transform.proofs.layers.scale.Given as goal

abbrev pub invariant-loop-i : goal.invariant-loop-i
invariant-loop-i g l = Filled (λ k. residue g.row.P (pos l.w *ℤ at l.initial.a k)) l.initial.a l.i l.a
