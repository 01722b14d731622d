use Rattle.std.proofs.Common.{length}
use Rattle.negacyclic.proofs.Filled.{filled_all}
use Rattle.regev_code.proofs.DigitSums.{digit_cut}
use Rattle.regev_code.proofs.digit_sum.load_digits.Goals as goal

pub returns-clause-value : goal.returns-clause-value
returns-clause-value c =
    filled_all (digit_cut c.args.ring.now c.args.digits.now) c.args.forms.now c.loop-k.k c.loop-k.forms c.loop-k-test.false c.loop-k.invariant.filled.filled
