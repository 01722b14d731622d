use Rattle.std.proofs.Common.{◌+◌, arith}
use Rattle.negacyclic.proofs.Lists.{pushed_more}
use Rattle.spiral_model.specs.Queries.{column_message}
use Rattle.regev_code.specs.Shapes.{under}
use Rattle.gsw_code.proofs.messages.column_messages.Goals as goal

pub loop-i-preserved : goal.loop-i-preserved
loop-i-preserved c =
    pushed_more (column_message c.args.ring.now (under c.args.ring.now c.args.secret.now c.args.set.now.pack) c.args.power c.args.r) 1 c.loop-i.i (c.loop-i.i + 1)
    c.loop-i.messages.items c.push.new.self.items c.in_ok-message.field-0 (omega arith) c.loop-i.invariant c.in_ok-push.ensures.items c.in_ok-message.ensures
