use Rattle.bit_packing.proofs.Windows.{bytes_below}
use Rattle.pir_wire.proofs.BodyParts.{state_there}
use Rattle.pir_wire.proofs.decoder.state.state_of.Goals as goal

pub unwrap-requires : goal.unwrap-requires
unwrap-requires c =
    state_there c.in_ok-state.state c.args.set.now c.args.bytes.now c.requires.part c.requires.whole (bytes_below c.args.bytes.now c.type_inv.bytes) c.in_ok-state.ensures.none
