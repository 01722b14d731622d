use Rattle.std.proofs.Common.{◌+◌, ◌*◌, ◌%◌, ◌^◌}
use Rattle.ring_transform.proofs.Fours.{part_four_done}
use Rattle.ring_transform.proofs.Sizes.{entry_is}
use Rattle.ring_transform.proofs.layers.part_four.Goals as goal

pub returns-clause-remainders : goal.returns-clause-remainders
returns-clause-remainders g c =
    let d = c.args.depth in
    part_four_done g.row.P d c.args.i (1 * 2 ^ d % 2 ^ 64 + c.args.i) c.args.twiddles.now c.args.a.now c.put_four.new.a c.apart-x0.result.0 c.apart-x0.result.1 c.apart-x1.result.0 c.apart-x1.result.1 c.apart-y0.result.0 c.apart-y0.result.1 c.apart-y2.result.0 c.apart-y2.result.1
    c.requires.prime c.requires.deep c.requires.place c.requires.table c.requires.room c.requires.size (entry_is d c.args.i c.requires.deep)
    c.apart-x0.ensures.sum c.apart-x0.ensures.difference c.apart-x1.ensures.sum c.apart-x1.ensures.difference c.apart-y0.ensures.sum c.apart-y0.ensures.difference c.apart-y2.ensures.sum c.apart-y2.ensures.difference
    c.put_four.ensures
