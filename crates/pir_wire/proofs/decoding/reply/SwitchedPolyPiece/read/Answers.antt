use Rattle.std.proofs.Common.{◌≡◌, ℕ, length, ◌∙◌, ap, arith}
use Rattle.std.proofs.lemmas.List.{take_at}
use Rattle.negacyclic.specs.Digits.{repacked}
use Rattle.bit_packing.proofs.Windows.{bytes_below}
use Rattle.pir_wire.proofs.Replies.{poly_packed}
use Rattle.pir_wire.proofs.decoding.reply.SwitchedPolyPiece.read.Goals as goal

pub returns-clause-found : goal.returns-clause-found
returns-clause-found c =
    let count : length c.deref_mut.result.now ≡ c.args.degree = omega (arith, c.in_ok-numbers.ensures.len) in
    let filled : length c.unpack.new.out ≡ c.in_ok-numbers.numbers.len = omega arith in
    poly_packed c.args.degree c.args.width c.args.bytes.now c.from_numbers.result c.requires.room (bytes_below c.args.bytes.now c.type_inv.bytes)
    (c.from_numbers.ensures ∙ take_at c.unpack.new.out _ _ filled ∙ c.unpack.ensures ∙ ap (λ (n : ℕ). repacked 8 c.args.width n c.args.bytes.now) count)
