use Rattle.std.proofs.Common.{◌+◌, ◌*◌, ◌/◌, ◌%◌, sym, arith}
use Rattle.std.proofs.lemmas.List.{take_rest}
use Rattle.std.proofs.lemmas.Nat.{and_mask}
use Rattle.negacyclic.proofs.Digits.{digit-past, digit-of_window}
use Rattle.bit_packing.proofs.byte_at.Goals as goal

pub returns-then-first-values : goal.returns-then-first-values
returns-then-first-values c =
    sym (digit-past c.args.width 8 c.args.index c.args.values.now c.requires.some c.requires.fit c.if-first-values.true)

pub returns : goal.returns
returns c =
    rw (and_mask _ 8, c.number_of_values-window.ensures, take_rest)
    (sym (digit-of_window c.args.width 8 c.args.index ((8 * c.args.index % c.args.width + 7) / c.args.width + 1) c.args.values.now c.requires.some c.requires.fit (omega arith)))
