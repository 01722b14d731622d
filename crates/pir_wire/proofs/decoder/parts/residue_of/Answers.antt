use Rattle.bit_packing.proofs.Windows.{bytes_below}
use Rattle.pir_wire.proofs.Queries.{residue_spelled}
use Rattle.pir_wire.proofs.CipherSteps.{seven_worth}
use Rattle.pir_wire.proofs.decoder.parts.residue_of.Goals as goal

pub returns-clause-value : goal.returns-clause-value
returns-clause-value c =
    seven_worth c.args.bytes.now c.copy_from_slice.new.self c.from_le_bytes.result c.requires c.copy_from_slice.ensures.after c.from_le_bytes.ensures

pub returns-clause-spelled : goal.returns-clause-spelled
returns-clause-spelled c =
    residue_spelled c.from_le_bytes.result c.args.bytes.now c.requires (bytes_below c.args.bytes.now c.type_inv.bytes)
    (seven_worth c.args.bytes.now c.copy_from_slice.new.self c.from_le_bytes.result c.requires c.copy_from_slice.ensures.after c.from_le_bytes.ensures)
