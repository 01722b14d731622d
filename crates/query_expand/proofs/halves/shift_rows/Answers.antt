use Rattle.query_expand.proofs.HalfRows.{shifted_all}
use Rattle.query_expand.proofs.halves.shift_rows.Goals as goal

pub returns : goal.returns
returns c =
    shifted_all c.args.ring.now c.args.e c.args.from.now c.args.to.now c.loop-i.i c.loop-i.to c.requires.same_length c.loop-i-test.false c.loop-i.invariant
