use Rattle.std.proofs.Common.{refl, arith}
use Rattle.negacyclic.proofs.Filled.{filled_part_none, filled_part_more, filled_part_all}
use Rattle.spiral_model.specs.Replies.{switched_zeroth, switched_mask}
use Rattle.modulus_switch.proofs.Parts.{mask_in, with_mask, mask_part}
use Rattle.pir_server.proofs.answering.put_mask.Goals as goal

pub loop-c-init : goal.loop-c-init
loop-c-init c = filled_part_none mask_in with_mask mask_part (switched_zeroth c.args.set.now c.args.columns.now) c.args.reply.now

pub loop-c-preserved : goal.loop-c-preserved
loop-c-preserved c =
    filled_part_more mask_in with_mask mask_part (switched_zeroth c.args.set.now c.args.columns.now) c.args.reply.now
    c.loop-c.reply c.put_zeroth.new.reply c.loop-c.c (switched_zeroth c.args.set.now c.args.columns.now c.loop-c.c)
    (omega (arith, c.requires.columns)) c.put_zeroth.ensures refl c.loop-c.invariant

pub returns : goal.returns
unfolding switched_mask
returns c =
    filled_part_all mask_in with_mask mask_part (switched_zeroth c.args.set.now c.args.columns.now) c.args.reply.now c.loop-c.reply c.args.set.now.n c.loop-c.c
    c.requires.columns (omega arith) c.loop-c.invariant
