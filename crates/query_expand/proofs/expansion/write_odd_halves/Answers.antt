use Rattle.std.proofs.Common.{arith}
use Rattle.query_expand.proofs.Rounds.{odd_halves}
use Rattle.query_expand.proofs.expansion.write_odd_halves.Goals as goal

pub returns-clause-value : goal.returns-clause-value
returns-clause-value c =
    odd_halves c.args.ring.now c.args.round c.args.key.now c.args.low.now c.args.high.now c.loop-x.x c.loop-x.high (omega arith) c.requires.room
    c.loop-x.invariant.so_far
