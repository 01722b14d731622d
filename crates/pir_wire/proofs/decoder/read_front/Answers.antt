use Rattle.bit_packing.proofs.Windows.{bytes_below}
use Rattle.pir_wire.proofs.decoder.read_front.Goals as goal

pub returns-clause-below : goal.returns-clause-below
returns-clause-below c = bytes_below c.args.bytes.now c.type_inv.bytes
