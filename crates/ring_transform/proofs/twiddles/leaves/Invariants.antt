use Rattle.std.proofs.Common.{◌≡◌, map}
use Rattle.std.specs.List.{range_with_len}
use Rattle.ring_transform.specs.Points.{node}
use Rattle.ring_transform.proofs.twiddles.leaves.Given as goal

abbrev pub invariant-loop-j : goal.invariant-loop-j
invariant-loop-j g l = l.nodes.items ≡ map (node g.row.P l.depth) (range_with_len 0 l.j)
