use Rattle.negacyclic.proofs.Digits.{number_of-digits}
use Rattle.negacyclic.proofs.numbers_of_digits.Goals as goal

pub returns : goal.returns
returns c = λ base count x positive. number_of-digits base count x positive
