use Rattle.std.proofs.Common.{◌<◌, ◌^◌, get_or, refl, arith}
use Rattle.bit_packing.proofs.Windows.{bytes_below}
use Rattle.pir_wire.proofs.BodyParts.{refuse_read}
use Rattle.pir_wire.proofs.decoder.refuse.refusal_of.Goals as goal

pub returns-clause-body : goal.returns-clause-body
returns-clause-body c =
    let bytes = c.args.bytes.now in
    let code : get_or bytes 0 0 < 2 ^ 8 = bytes_below bytes c.type_inv.bytes 0 0 (omega (arith, c.requires.whole)) in
    refuse_read c.args.set.now bytes (get_or bytes 0 0) c.number_at.result c.requires.known c.requires.whole (bytes_below bytes c.type_inv.bytes) code
    (omega (arith, c.number_at.type_inv)) refl c.number_at.ensures
