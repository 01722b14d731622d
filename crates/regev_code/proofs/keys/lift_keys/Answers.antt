use Rattle.std.proofs.Common.{◌∙◌, ap}
use Rattle.spiral_model.specs.Bodies.{CipherBody}
use Rattle.regev_code.proofs.KeyCuts.{lent_degrees}
use Rattle.regev_code.proofs.keys.lift_keys.Goals as goal

pub keys_from-requires-clause-degrees : goal.keys_from-requires-clause-degrees
keys_from-requires-clause-degrees c =
    lent_degrees c.args.body.now c.args.ring.now c.deref.result.now (c.deref.ensures.value ∙ ap (λ (b : CipherBody). b.ciphers) c.body.view_is)
    c.requires.ring c.requires.body
