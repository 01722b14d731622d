use Rattle.std.proofs.Common.{◌+◌, ◌*◌, ◌%◌, ◌^◌}
use Rattle.ring_transform.proofs.Fours.{join_four_done}
use Rattle.ring_transform.proofs.Sizes.{entry_is}
use Rattle.ring_transform.proofs.layers.join_four.Goals as goal

pub returns-clause-remainders : goal.returns-clause-remainders
returns-clause-remainders g c =
    let d = c.args.depth in
    join_four_done g.row.P d c.args.i (1 * 2 ^ d % 2 ^ 64 + c.args.i) c.args.inverses.now c.args.a.now c.put_four.new.a c.joined-x0.result.0 c.joined-x0.result.1 c.joined-x2.result.0 c.joined-x2.result.1 c.joined-y0.result.0 c.joined-y0.result.1 c.joined-y1.result.0 c.joined-y1.result.1
    c.requires.prime c.requires.deep c.requires.place c.requires.table c.requires.room c.requires.size (entry_is d c.args.i c.requires.deep)
    c.joined-x0.ensures.sum c.joined-x0.ensures.difference c.joined-x2.ensures.sum c.joined-x2.ensures.difference c.joined-y0.ensures.sum c.joined-y0.ensures.difference c.joined-y1.ensures.sum c.joined-y1.ensures.difference
    c.put_four.ensures
