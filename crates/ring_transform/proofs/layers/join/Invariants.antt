use Rattle.std.proofs.Common.{◌≡◌, ◌≤◌, ◌-◌, ◌*◌, ◌^◌, ◌<◌, All}
use Rattle.ring_transform.proofs.Composed.{Rises}
use Rattle.ring_transform.proofs.layers.join.Given as goal

abbrev pub invariant-loop-depth : goal.invariant-loop-depth
invariant-loop-depth g l = record {
  most : l.depth ≤ l.layers;
  size : l.size ≡ 2 ^ (l.layers - l.depth) * 4;
  rises : Rises g.row.P l.layers l.size l.depth l.initial.a l.a;
  residues : All (λ x. x < g.row.P) l.a;
}

abbrev pub decreases-loop-depth : goal.decreases-loop-depth
decreases-loop-depth g l = l.depth
