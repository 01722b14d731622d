use Rattle.std.proofs.Common.{arith}
use Rattle.bit_packing.proofs.Windows.{bytes_below}
use Rattle.frame_streams.proofs.Heads.{header_size}
use Rattle.pir_wire.proofs.decoder.header_held.Goals as goal

pub returns : goal.returns
returns c = omega (arith, header_size c.args.kinds c.args.bytes.now (bytes_below c.args.bytes.now c.type_inv.bytes) c.requires)
