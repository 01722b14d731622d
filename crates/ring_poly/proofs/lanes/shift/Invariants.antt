use Rattle.std.proofs.Common.{length}
use Rattle.negacyclic.specs.Residues.{residue}
use Rattle.negacyclic.specs.Ring.{at, shift_at}
use Rattle.negacyclic.proofs.Filled.{Filled}
use Rattle.ring_poly.proofs.lanes.shift.Given as goal

abbrev pub invariant-loop-k : goal.invariant-loop-k
invariant-loop-k g l = Filled (λ k. residue g.row.P (shift_at (length l.a) l.e (at l.a) k)) l.initial.out l.k l.out
