use Rattle.negacyclic.proofs.Filled.{FilledPart}
use Rattle.spiral_model.specs.Replies.{switched_entry}
use Rattle.modulus_switch.proofs.Parts.{body_in, with_body}
use Rattle.pir_server.proofs.answering.put_body.Given as goal

abbrev pub invariant-loop-e : goal.invariant-loop-e
invariant-loop-e l = FilledPart body_in with_body (switched_entry l.set l.columns) l.fn.reply l.e l.reply
