use Rattle.std.proofs.Common.{◌∙◌, ap}
use Rattle.negacyclic.specs.Digits.{number_of}
use Rattle.bit_packing.proofs.Windows.{bytes_below}
use Rattle.pir_wire.proofs.CipherSteps.{seven_of_eight, seven_spelled, as_slice}
use Rattle.pir_wire.proofs.decoder.parts.residue_at.Goals as goal

pub returns-then-place-piece-clause-value : goal.returns-then-place-piece-clause-value
returns-then-place-piece-clause-value c =
    seven_of_eight c.args.piece.now c.args.place (bytes_below c.args.piece.now c.type_inv.piece) c.number_at.result c.number_at.ensures

pub returns-then-place-piece-clause-spelled : goal.returns-then-place-piece-clause-spelled
returns-then-place-piece-clause-spelled c =
    seven_spelled c.args.piece.now c.args.place (bytes_below c.args.piece.now c.type_inv.piece) _ c.requires
    (seven_of_eight c.args.piece.now c.args.place (bytes_below c.args.piece.now c.type_inv.piece) c.number_at.result c.number_at.ensures)

pub returns-clause-value : goal.returns-clause-value
returns-clause-value c = c.residue_of.ensures.value ∙ ap (number_of 256) (as_slice c.args.piece.now c.args.place)

pub returns-clause-spelled : goal.returns-clause-spelled
returns-clause-spelled c = c.residue_of.ensures.spelled ∙ as_slice c.args.piece.now c.args.place
