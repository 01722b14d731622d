use Rattle.regev_code.proofs.DigitSums.{AddsRows}
use Rattle.regev_code.proofs.digit_sum.add_rows.Given as goal

abbrev pub invariant-loop-i : goal.invariant-loop-i
invariant-loop-i l = AddsRows l.ring l.forms l.key l.initial.rows l.i l.rows l.sum
