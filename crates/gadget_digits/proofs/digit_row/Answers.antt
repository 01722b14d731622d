use Rattle.std.proofs.Common.{arith}
use Rattle.gadget_digits.proofs.DigitRows.{digit_poly-written}
use Rattle.gadget_digits.proofs.digit_row.Goals as goal

pub returns : goal.returns
returns c =
    digit_poly-written c.args.w c.args.k c.args.x.now c.loop-c.out (omega arith) (λ i h. c.loop-c.invariant i (omega arith))
