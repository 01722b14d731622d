use Rattle.std.proofs.Common.{◌≡◌, ◌*◌, take}
use Rattle.gadget_digits.proofs.DigitRows.{first_rows}
use Rattle.gadget_digits.proofs.digits_into.Given as goal

abbrev pub invariant-loop-k : goal.invariant-loop-k
invariant-loop-k l = take (l.k * l.n) l.out ≡ first_rows l.w l.x l.k
