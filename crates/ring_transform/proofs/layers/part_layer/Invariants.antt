use Rattle.std.proofs.Common.{◌*◌, ◌<◌, All}
use Rattle.ring_transform.specs.Remainders.{Remainders}
use Rattle.ring_transform.proofs.Filling.{BlocksDone}
use Rattle.ring_transform.proofs.layers.part_layer.Given as goal

abbrev pub invariant-loop-i : goal.invariant-loop-i
invariant-loop-i g l = record {
  blocks : BlocksDone (λ k whole parts. Remainders g.row.P l.half 1 l.depth k 1 whole parts) (2 * l.half) l.i l.initial.a l.a;
  residues : All (λ x. x < g.row.P) l.a;
}
