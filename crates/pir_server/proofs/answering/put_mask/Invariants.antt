use Rattle.negacyclic.proofs.Filled.{FilledPart}
use Rattle.spiral_model.specs.Replies.{switched_zeroth}
use Rattle.modulus_switch.proofs.Parts.{mask_in, with_mask}
use Rattle.pir_server.proofs.answering.put_mask.Given as goal

abbrev pub invariant-loop-c : goal.invariant-loop-c
invariant-loop-c l = FilledPart mask_in with_mask (switched_zeroth l.set l.columns) l.fn.reply l.c l.reply
