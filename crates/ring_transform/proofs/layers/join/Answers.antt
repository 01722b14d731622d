use Rattle.std.proofs.Common.{◌-◌, length, arith}
use Rattle.ring_transform.proofs.Composed.{rises_more, rises_all, size_doubled, parts_fit_up, room_for}
use Rattle.ring_transform.proofs.layers.join.Goals as goal

pub join_layer-requires-clause-room : goal.join_layer-requires-clause-room
join_layer-requires-clause-room g c = room_for c.args.layers (c.loop-depth.depth - 1) (length c.args.inverses.now) (omega arith) c.requires.room

pub join_layer-requires-clause-size : goal.join_layer-requires-clause-size
join_layer-requires-clause-size g c = parts_fit_up c.args.layers c.loop-depth.depth c.loop-depth.size (length c.loop-depth.a) (omega arith) c.loop-depth.invariant.most (omega (arith, c.requires.size)) c.loop-depth.invariant.size

pub loop-depth-preserved : goal.loop-depth-preserved
loop-depth-preserved g c =
    record {
      most = omega arith;
      size = size_doubled c.args.layers c.loop-depth.depth c.loop-depth.size (omega arith) c.loop-depth.invariant.most c.loop-depth.invariant.size;
      rises = rises_more g.row.P c.args.layers c.loop-depth.size c.loop-depth.depth c.args.a.now c.loop-depth.a c.join_layer.new.a c.requires.prime c.requires.deep (omega arith) c.loop-depth.invariant.most c.loop-depth.invariant.rises c.join_layer.ensures.remainders;
      residues = c.join_layer.ensures.residues;
    }

pub returns-clause-remainders : goal.returns-clause-remainders
returns-clause-remainders g c =
    rises_all g.row.P c.args.layers c.loop-depth.size c.loop-depth.depth c.args.a.now c.loop-depth.a (omega arith) c.loop-depth.invariant.size c.loop-depth.invariant.rises
