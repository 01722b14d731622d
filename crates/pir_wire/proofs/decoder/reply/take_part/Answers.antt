use Rattle.std.proofs.Common.{◌-◌, ◌*◌, ◌/◌, List, ℕ, ◌++◌, ◌∷◌, [], length, take, drop, ap, ◌∙◌, arith}
use Rattle.std.proofs.lemmas.List.{take_at}
use Rattle.pir_wire.proofs.ReplyParts.{part_whole}
use Rattle.pir_wire.proofs.decoder.reply.take_part.Goals as goal

pub returns-clause-taken : goal.returns-clause-taken
returns-clause-taken c =
    let taken = take (c.args.degree * c.args.width / 8 - c.len.result) c.args.piece.now in
    let numbers = c.unpack_poly.new.numbers in
    part_whole c.args.degree _ c.args.width c.args.polys.now.items c.push.new.self.items c.args.part.now.items c.clear.new.self.items taken
    c.deref.result.now _ (omega (arith, c.deref_mut.ensures.len, c.in_ok-numbers.ensures.len))
    (c.deref.ensures.value ∙ c.in_ok-extend_from_slice-2.ensures.items) c.unpack_poly.ensures.switched c.unpack_poly.ensures.spelled
    (c.in_ok-push.ensures.items
    ∙ ap (λ (p : List ℕ). c.args.polys.now.items ++ p ∷ [])
    (c.from_numbers.ensures
    ∙ take_at numbers (drop (length numbers) c.in_ok-numbers.numbers.items) c.in_ok-numbers.numbers.len (omega (arith, c.unpack_poly.auto.numbers, c.deref_mut.ensures.len))))
    c.clear.ensures.items
