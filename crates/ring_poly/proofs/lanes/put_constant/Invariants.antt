use Rattle.std.proofs.Common.{◌==◌, if◌then◌else◌, pos}
use Rattle.negacyclic.specs.Residues.{residue}
use Rattle.negacyclic.proofs.Filled.{Filled}
use Rattle.ring_poly.proofs.lanes.put_constant.Given as goal

abbrev pub invariant-loop-place : goal.invariant-loop-place
invariant-loop-place g l = Filled (λ k. residue g.row.P (if k == 0 then pos l.z else pos 0)) l.initial.a l.place l.a
