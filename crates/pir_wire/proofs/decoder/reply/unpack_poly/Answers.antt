use Rattle.std.proofs.Common.{length}
use Rattle.bit_packing.proofs.Windows.{bytes_below}
use Rattle.pir_wire.proofs.Replies.{poly_packed}
use Rattle.pir_wire.proofs.decoder.reply.unpack_poly.Goals as goal

pub returns-clause-switched : goal.returns-clause-switched
returns-clause-switched c =
    (poly_packed (length c.args.numbers.now) c.args.width c.args.bytes.now c.unpack.new.out c.requires.whole (bytes_below c.args.bytes.now c.type_inv.bytes) c.unpack.ensures).0

pub returns-clause-spelled : goal.returns-clause-spelled
returns-clause-spelled c =
    (poly_packed (length c.args.numbers.now) c.args.width c.args.bytes.now c.unpack.new.out c.requires.whole (bytes_below c.args.bytes.now c.type_inv.bytes) c.unpack.ensures).1
