use Rattle.word_prime.proofs.Remainders.{pair_below, pair_only}
use Rattle.word_prime.proofs.pairs.join_pair.Goals as goal

pub returns-clause-below : goal.returns-clause-below
returns-clause-below c =
    rw (c.from.ensures, c.from-modulus.ensures, c.from-2.ensures, c.from-3.ensures, c.from-4.ensures) (pair_below c.args.a c.args.b c.requires.first c.requires.second)

pub returns-clause-only : goal.returns-clause-only
returns-clause-only c =
    λ y below first second.
    rw (c.from.ensures, c.from-modulus.ensures, c.from-2.ensures, c.from-3.ensures, c.from-4.ensures) (pair_only c.args.a c.args.b y c.requires.first c.requires.second below first second)
