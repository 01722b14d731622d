use Rattle.std.proofs.Common.{◌∙◌, ap}
use Rattle.spiral_model.specs.Bodies.{CipherBody}
use Rattle.regev_code.proofs.KeyCuts.{lent_degrees, part_degrees}
use Rattle.regev_code.proofs.keys.conversion.Goals as goal

pub from_ciphers-requires-clause-degrees : goal.from_ciphers-requires-clause-degrees
from_ciphers-requires-clause-degrees c =
    part_degrees c.args.ring.now c.conversion_start-start.result _ c.deref.result.now
    (lent_degrees c.args.body.now c.args.ring.now c.deref.result.now (c.deref.ensures.value ∙ ap (λ (b : CipherBody). b.ciphers) c.body.view_is)
    c.requires.ring c.requires.body)
