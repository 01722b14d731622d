use Rattle.ring_transform.proofs.Entries.{quotients_more, quotients_count}
use Rattle.ring_transform.proofs.twiddles.quotients.Goals as goal

pub loop-i-preserved : goal.loop-i-preserved
loop-i-preserved g c =
    record {
      count = quotients_count c.loop-i.i c.quotient_of.result c.loop-i.found.items c.push.new.self.items c.loop-i.invariant.count c.in_ok-push.ensures.items;
      factor = quotients_more g.row.P c.loop-i.i c.quotient_of.result c.args.factors.now c.loop-i.found.items c.push.new.self.items c.loop-i.invariant.count c.in_ok-push.ensures.items c.quotient_of.ensures c.loop-i.invariant.factor;
    }
