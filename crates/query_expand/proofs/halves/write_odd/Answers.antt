use Rattle.query_expand.proofs.HalfRows.{odd_is}
use Rattle.query_expand.proofs.halves.write_odd.Goals as goal

pub returns-clause-value : goal.returns-clause-value
returns-clause-value c =
    odd_is c.args.ring.now c.args.round c.shift_of-e.result c.args.key.now c.args.c.now c.shift_into.new.out c.keep_even.new.c c.shift_of-e.ensures.value
    c.shift_into.ensures.value
    c.keep_even.ensures.value
