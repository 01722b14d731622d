use Rattle.pir_wire.proofs.CipherSteps.{nothing}
use Rattle.pir_wire.proofs.decoder.parts.Parts.none.Goals as goal

pub returns-clause-at_hand : goal.returns-clause-at_hand
returns-clause-at_hand c =
    (nothing c.args.set.now c.args.is_setup c.new.result.items c.new-2.result.items c.new-3.result.items c.requires c.new.ensures.items
    c.new-2.ensures.items c.new-3.ensures.items).0

pub returns-clause-empty : goal.returns-clause-empty
returns-clause-empty c =
    (nothing c.args.set.now c.args.is_setup c.new.result.items c.new-2.result.items c.new-3.result.items c.requires c.new.ensures.items
    c.new-2.ensures.items c.new-3.ensures.items).1
