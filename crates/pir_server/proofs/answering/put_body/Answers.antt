use Rattle.std.proofs.Common.{refl, arith}
use Rattle.negacyclic.proofs.Filled.{filled_part_none, filled_part_more, filled_part_all}
use Rattle.spiral_model.specs.Sets.{entries}
use Rattle.spiral_model.specs.Replies.{switched_entry, switched_body}
use Rattle.modulus_switch.proofs.Parts.{body_in, with_body, body_part}
use Rattle.pir_server.proofs.answering.put_body.Goals as goal

pub loop-e-init : goal.loop-e-init
loop-e-init c = filled_part_none body_in with_body body_part (switched_entry c.args.set.now c.args.columns.now) c.args.reply.now

pub loop-e-preserved : goal.loop-e-preserved
loop-e-preserved c =
    filled_part_more body_in with_body body_part (switched_entry c.args.set.now c.args.columns.now) c.args.reply.now
    c.loop-e.reply c.put_entry.new.reply c.loop-e.e (switched_entry c.args.set.now c.args.columns.now c.loop-e.e)
    (omega (arith, c.requires.entries, c.entries-e-end.ensures.value)) c.put_entry.ensures refl c.loop-e.invariant

pub returns : goal.returns
unfolding switched_body
returns c =
    filled_part_all body_in with_body body_part (switched_entry c.args.set.now c.args.columns.now) c.args.reply.now
    c.loop-e.reply (entries c.args.set.now) c.loop-e.e c.requires.entries (omega (arith, c.entries-e-end.ensures.value)) c.loop-e.invariant
