use Rattle.word_prime.proofs.Remainders.{only_pair}
use Rattle.word_prime.proofs.pairs.split_pair.Goals as goal

pub returns-clause-only : goal.returns-clause-only
returns-clause-only c =
    λ y below first second.
    only_pair y c.args.x below c.requires (rw c.from.ensures at first) (rw c.from-2.ensures at second)
