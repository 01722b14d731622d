use Rattle.std.proofs.Common.{◌≡◌, ◌+◌, ◌==◌, if◌then◌else◌, pos, arith}
use Rattle.spiral_sets.specs.Sets.{delta, rows}
use Rattle.negacyclic.proofs.Lists.{pushed_more}
use Rattle.spiral_model.specs.Queries.{first_place, row_message}
use Rattle.pir_client.proofs.MessageLists.{in_row-all}
use Rattle.pir_client.proofs.messages.first_messages.Goals as goal

pub loop-i-preserved : goal.loop-i-preserved
loop-i-preserved c =
    pushed_more (row_message c.args.set.now c.args.r (if c.args.u == first_place c.args.set.now c.args.index then pos (delta c.args.set.now) else pos 0)) 1
    c.loop-i.i (c.loop-i.i + 1)
    c.loop-i.messages.items c.push.new.self.items c.first_message_into.new.out (omega arith) c.loop-i.invariant c.in_ok-push.ensures.items
    c.first_message_into.ensures.value

pub returns : goal.returns
returns c =
    let last : c.loop-i.i ≡ rows c.args.set.now = omega arith in
    in_row-all c.args.set.now c.args.index c.args.u c.args.r c.loop-i.i c.loop-i.messages.items last c.loop-i.invariant
