use Rattle.std.proofs.Common.{le_of_eq}
use Rattle.negacyclic.proofs.Digits.{repacked-back}
use Rattle.negacyclic.proofs.repacked_back.Goals as goal

pub returns : goal.returns
returns c = λ from to count values below whole. repacked-back from to count values below (le_of_eq whole)
