use Rattle.std.proofs.Common.{◌<◌, sym, arith}
use Rattle.std.proofs.lemmas.List.{take_rest}
use Rattle.std.proofs.lemmas.Nat.{one_shl, and_mask}
use Rattle.negacyclic.proofs.Digits.{digit-past, digit-of_window}
use Rattle.bit_packing.proofs.Windows.{bytes_below}
use Rattle.bit_packing.proofs.value_at.Goals as goal

pub returns-then-first-bytes : goal.returns-then-first-bytes
returns-then-first-bytes c =
    sym (digit-past 8 c.args.width c.args.index c.args.bytes.now (omega arith) (bytes_below c.args.bytes.now c.type_inv.bytes) c.if-first-bytes.true)

pub returns : goal.returns
returns c =
    let narrow : c.args.width < 64 = omega arith in
    rw (one_shl c.args.width 64 narrow, and_mask, c.number_of_bytes-window.ensures, take_rest)
    (sym (digit-of_window 8 c.args.width c.args.index 8 c.args.bytes.now (omega arith) (bytes_below c.args.bytes.now c.type_inv.bytes) (omega arith)))
