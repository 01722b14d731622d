use Rattle.std.proofs.Common.{◌<◌, All}
use Rattle.ring_transform.specs.Remainders.{Remainders}
use Rattle.ring_transform.proofs.Filling.{BlocksDone}
use Rattle.ring_transform.proofs.layers.join_fours.Given as goal

abbrev pub invariant-loop-i : goal.invariant-loop-i
invariant-loop-i g l = record {
  blocks : BlocksDone (λ k parts whole. Remainders g.row.P 1 2 l.depth k 4 whole parts) 4 l.i l.initial.a l.a;
  residues : All (λ x. x < g.row.P) l.a;
}
