use Rattle.std.proofs.Common.{pos, ◌+ℤ◌, ◌-ℤ◌, ◌*ℤ◌}
use Rattle.negacyclic.specs.Residues.{residue}
use Rattle.ring_transform.proofs.Pairs.{BothFilled}
use Rattle.ring_transform.proofs.layers.joined_lists.Given as goal

abbrev pub invariant-loop-i : goal.invariant-loop-i
invariant-loop-i g l = BothFilled (λ x y. residue g.row.P (pos x +ℤ pos y)) (λ x y. residue g.row.P ((pos x -ℤ pos y) *ℤ pos l.w)) l.initial.low l.initial.high l.i l.low l.high
