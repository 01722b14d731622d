use Rattle.pir_wire.specs.CipherParts.{made}
use Rattle.pir_wire.proofs.CipherSteps.{setup_finished, query_finished}
use Rattle.pir_wire.proofs.decoder.ciphers.CiphersRead.finish.Goals as goal

pub returns-then-is_setup : goal.returns-then-is_setup
returns-then-is_setup c =
    setup_finished (made c.self.inside.parts) c.self.inside.few.items c.args.self c.into_ciphers-is_setup.result.1
    c.into_ciphers-is_setup.result.2.items c.into_ciphers-is_setup.result.0 c.self.invariant.at_hand c.self.view_is c.requires
    c.into_ciphers-is_setup.ensures.kind c.into_ciphers-is_setup.ensures.set c.into_ciphers-is_setup.ensures.ciphers c.if-is_setup.true

pub returns : goal.returns
returns c =
    query_finished (made c.self.inside.parts) c.self.inside.few.items c.args.self c.into_ciphers-is_setup.result.1
    c.into_ciphers-is_setup.result.2.items c.into_ciphers-is_setup.result.0 c.self.invariant.at_hand c.self.view_is c.requires
    c.into_ciphers-is_setup.ensures.kind c.into_ciphers-is_setup.ensures.set c.into_ciphers-is_setup.ensures.ciphers c.if-is_setup.false
