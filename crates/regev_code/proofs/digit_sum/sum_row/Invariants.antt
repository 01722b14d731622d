use Rattle.regev_code.proofs.DigitSums.{SumsRow}
use Rattle.regev_code.proofs.digit_sum.sum_row.Given as goal

abbrev pub invariant-loop-k : goal.invariant-loop-k
invariant-loop-k l = SumsRow l.ring l.forms l.key l.i l.k l.sum
