use Rattle.std.proofs.Common.{◌+◌, arith}
use Rattle.negacyclic.proofs.Lists.{pushed_more}
use Rattle.key_deal.proofs.LiftMessages.{part_of, message-all}
use Rattle.key_deal.proofs.lifts.messages.Goals as goal

pub loop-i-preserved : goal.loop-i-preserved
loop-i-preserved c =
    pushed_more (part_of c.args.set.now c.args.s.now c.args.r c.args.k) 1 c.loop-i.i (c.loop-i.i + 1) c.loop-i.messages.items c.push.new.self.items c.part_into.new.out
    (omega arith) c.loop-i.invariant c.in_ok-push.ensures.items c.part_into.ensures

pub returns : goal.returns
returns c =
    message-all c.args.set.now c.args.s.now c.args.r c.args.k c.loop-i.i c.loop-i.messages.items (omega arith) c.loop-i.invariant
