use Rattle.std.proofs.Common.{arith}
use Rattle.query_expand.proofs.Rounds.{even_halves}
use Rattle.query_expand.proofs.expansion.keep_even_halves.Goals as goal

pub returns-clause-value : goal.returns-clause-value
returns-clause-value c =
    even_halves c.args.ring.now c.args.round c.args.key.now c.args.ciphers.now c.loop-x.x c.loop-x.ciphers (omega arith) c.loop-x.invariant.so_far
