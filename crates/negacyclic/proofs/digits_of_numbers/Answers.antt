use Rattle.negacyclic.proofs.Digits.{digits-number_of}
use Rattle.negacyclic.proofs.digits_of_numbers.Goals as goal

pub returns : goal.returns
returns c = λ base xs below. digits-number_of base xs below
