use Rattle.std.proofs.Common.{◌≡◌, ◌-◌, ◌*◌, ◌^◌, ◌<◌, All}
use Rattle.negacyclic.specs.Ring.{at}
use Rattle.ring_transform.specs.Remainders.{Remainders}
use Rattle.ring_transform.proofs.layers.part.Given as goal

abbrev pub invariant-loop-depth : goal.invariant-loop-depth
invariant-loop-depth g l = record {
  size : l.size ≡ 2 ^ (l.layers - l.depth) * 4;
  remainders : Remainders g.row.P l.size l.depth 0 0 1 (at l.initial.a) (at l.a);
  residues : All (λ x. x < g.row.P) l.a;
}
