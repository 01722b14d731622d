use Rattle.std.proofs.Common.{◌≡◌, ℕ, List, ◌++◌, length, take, ap, ◌∙◌, arith, length-append, length-take}
use Rattle.negacyclic.specs.Digits.{number_of}
use Rattle.ring_poly.proofs.Modulus.{q_is}
use Rattle.pir_wire.specs.CipherParts.{made}
use Rattle.pir_wire.proofs.CipherParts.{count_most, refused_by}
use Rattle.pir_wire.proofs.CipherSteps.{few_more, part_filled, part_grown}
use Rattle.pir_wire.proofs.decoder.parts.Parts.with_part.Goals as goal

pub returns-then-len-lt-RESIDUE : goal.returns-then-len-lt-RESIDUE
returns-then-len-lt-RESIDUE c =
    few_more (made c.args.self) c.args.few.items c.requires.at_hand c.requires.unfinished c.extend_from_slice.new.self.items c.args.piece.now
    c.min-taken.result c.in_ok-extend_from_slice.ensures.items (omega (arith, c.if-len-lt-RESIDUE.true, c.len-2.ensures))
    (omega (arith, c.min-taken.ensures, c.requires.some, c.requires.at_hand.few_few, c.len.ensures)) (omega (arith, c.min-taken.ensures))

pub residue_refusal-requires-clause-few : goal.residue_refusal-requires-clause-few
residue_refusal-requires-clause-few c =
    omega (arith, count_most (made c.args.self) c.args.few.items c.requires.at_hand c.requires.unfinished)

pub returns-then-number-ge-Q : goal.returns-then-number-ge-Q
returns-then-number-ge-Q c =
    let few : List ℕ = c.args.few.items in
    let n : ℕ = c.min-taken.result in
    let more : List ℕ = c.extend_from_slice.new.self.items in
    let more_is : more ≡ few ++ take n c.args.piece.now = c.in_ok-extend_from_slice.ensures.items in
    let seven : length more ≡ 7 =
    omega (
      arith,
      c.if-len-lt-RESIDUE.false,
      c.len-2.ensures,
      ap length more_is,
      length-append few (take n c.args.piece.now),
      length-take n c.args.piece.now,
      c.min-taken.ensures,
      c.len.ensures,
    ) in
    refused_by (made c.args.self) few more c.args.piece.now n c.residue_of-number.result c.residue_refusal.result c.requires.at_hand c.requires.unfinished
    (omega (arith, c.min-taken.ensures)) more_is seven (c.residue_of-number.ensures.value ∙ ap (number_of 256) c.deref.ensures.value)
    (omega (arith, q_is, c.if-number-ge-Q.true)) c.residue_refusal.ensures

pub overflow_add-parts : goal.overflow_add-parts
overflow_add-parts c = omega (arith, count_most (made c.args.self) c.args.few.items c.requires.at_hand c.requires.unfinished)

pub settled-requires : goal.settled-requires
settled-requires c =
    part_filled (made c.args.self) c.args.few.items c.requires.at_hand c.requires.unfinished c.residue_of-number.result
    (omega (arith, q_is, c.if-number-ge-Q.false)) c.push.new.self.items c.in_ok-push.ensures.items

pub returns : goal.returns
returns c =
    part_grown (made c.args.self) c.args.few.items c.requires.at_hand c.requires.unfinished c.residue_of-number.result
    (omega (arith, q_is, c.if-number-ge-Q.false)) c.push.new.self.items c.in_ok-push.ensures.items (made c.in_ok-settled.field-0)
    c.extend_from_slice.new.self.items c.args.piece.now c.clear.new.self.items c.min-taken.result c.in_ok-settled.ensures
    (omega (arith, c.min-taken.ensures, c.requires.some, c.requires.at_hand.few_few, c.len.ensures)) (omega (arith, c.min-taken.ensures))
    c.in_ok-extend_from_slice.ensures.items (c.residue_of-number.ensures.spelled ∙ c.deref.ensures.value) c.clear.ensures.items
