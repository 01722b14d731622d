use Rattle.std.proofs.Common.{arith}
use Rattle.negacyclic.proofs.Lists.{pushed_more}
use Rattle.ring_transform.specs.Points.{node}
use Rattle.ring_transform.proofs.twiddles.leaves.Goals as goal

pub loop-j-preserved : goal.loop-j-preserved
loop-j-preserved g c =
    pushed_more (node g.row.P c.args.depth) 0 c.loop-j.j c.loop-j.j c.loop-j.nodes.items c.push.new.self.items c.node.result (omega arith) c.loop-j.invariant c.in_ok-push.ensures.items c.node.ensures
