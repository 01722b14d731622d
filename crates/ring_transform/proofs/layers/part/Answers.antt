use Rattle.std.proofs.Common.{◌*◌, ◌/◌, length, arith}
use Rattle.negacyclic.specs.Ring.{at}
use Rattle.ring_transform.proofs.Halving.{remainders_none}
use Rattle.ring_transform.proofs.Composed.{layer_parted, remainders_sized, parted_all, size_whole, size_halved, size_even, parts_fit, room_for}
use Rattle.ring_transform.proofs.layers.part.Goals as goal

pub loop-depth-init : goal.loop-depth-init
loop-depth-init g c =
    record {
      size = size_whole c.args.layers (length c.args.a.now) c.requires.size;
      remainders = remainders_none g.row.P (length c.args.a.now) 0 0 (at c.args.a.now);
      residues = c.requires.residues;
    }

pub part_layer-requires-clause-room : goal.part_layer-requires-clause-room
part_layer-requires-clause-room g c = room_for c.args.layers c.loop-depth.depth (length c.args.twiddles.now) (omega arith) c.requires.room

pub part_layer-requires-clause-size : goal.part_layer-requires-clause-size
part_layer-requires-clause-size g c =
    parts_fit c.args.layers c.loop-depth.depth c.loop-depth.size (length c.loop-depth.a) (omega arith) (omega (arith, c.requires.size)) c.loop-depth.invariant.size

pub loop-depth-preserved : goal.loop-depth-preserved
loop-depth-preserved g c =
    let half = c.loop-depth.size / 2 in
    record {
      size = size_halved c.args.layers c.loop-depth.depth c.loop-depth.size (omega arith) c.loop-depth.invariant.size;
      remainders = layer_parted g.row.P half c.loop-depth.depth 1 1 (at c.args.a.now) c.loop-depth.a c.part_layer.new.a c.requires.prime (omega arith)
          (remainders_sized g.row.P c.loop-depth.size (2 * half) c.loop-depth.depth 1 (at c.args.a.now) c.loop-depth.a (size_even c.args.layers c.loop-depth.depth c.loop-depth.size (omega arith) c.loop-depth.invariant.size) c.loop-depth.invariant.remainders)
          c.part_layer.ensures.remainders;
      residues = c.part_layer.ensures.residues;
    }

pub returns-clause-remainders : goal.returns-clause-remainders
returns-clause-remainders g c =
    parted_all g.row.P c.args.layers c.loop-depth.size c.loop-depth.depth c.args.a.now c.loop-depth.a (omega arith) (omega arith) c.loop-depth.invariant.size c.loop-depth.invariant.remainders
