use Rattle.regev_code.proofs.DigitSums.{LoadsDigits}
use Rattle.regev_code.proofs.digit_sum.load_digits.Given as goal

abbrev pub invariant-loop-k : goal.invariant-loop-k
invariant-loop-k l = LoadsDigits l.ring l.digits l.initial.forms l.k l.forms l.poly
