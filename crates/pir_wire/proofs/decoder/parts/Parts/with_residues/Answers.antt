use Rattle.std.proofs.Common.{◌≡◌, ℕ, ◌-◌, List, [], length, take, refl, arith, length-take}
use Rattle.pir_wire.specs.CipherParts.{made}
use Rattle.pir_wire.proofs.CipherParts.{count_most, refused_by}
use Rattle.pir_wire.proofs.CipherSteps.{residues_filled, residues_grown}
use Rattle.pir_wire.proofs.decoder.parts.Parts.with_residues.Goals as goal

pub returns-then-count-eq0 : goal.returns-then-count-eq0
returns-then-count-eq0 c =
    let piece : List ℕ = c.args.piece.now in
    let seven : length (take 7 piece) ≡ 7 = omega (arith, length-take 7 piece, c.requires.some) in
    let large = c.in_ok-count.ensures.too_large (omega (arith, c.if-count-eq0.true)) in
    refused_by (made c.args.self) [] (take 7 piece) piece 7 c.residue_at-number.result c.residue_refusal.result c.requires.at_hand c.requires.unfinished
    (omega (arith, c.requires.some)) refl seven c.residue_at-number.ensures.value (omega (arith, large, c.residue_at-number.ensures.value))
    c.residue_refusal.ensures

pub overflow_add-parts : goal.overflow_add-parts
overflow_add-parts c =
    omega (arith, count_most (made c.args.self) [] c.requires.at_hand c.requires.unfinished, c.in_ok-count.ensures.some, c.len.ensures)

pub settled-requires : goal.settled-requires
settled-requires c =
    residues_filled (made c.args.self) c.requires.at_hand c.requires.unfinished c.args.piece.now c.take_residues.new.numbers.items
    (c.args.self.set.degree - c.len.result) c.in_ok-count.count c.in_ok-count.ensures (omega (arith, c.len.ensures))

pub returns : goal.returns
returns c =
    residues_grown (made c.args.self) c.requires.at_hand c.requires.unfinished c.args.piece.now c.take_residues.new.numbers.items
    (c.args.self.set.degree - c.len.result) c.in_ok-count.count c.in_ok-count.ensures (made c.in_ok-settled.field-0) [] c.in_ok-settled.ensures
    (omega (arith, c.if-count-eq0.false)) refl
