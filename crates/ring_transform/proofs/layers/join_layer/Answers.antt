use Rattle.std.proofs.Common.{ℕ, ℤ, ◌*◌}
use Rattle.ring_transform.specs.Remainders.{Remainders}
use Rattle.ring_transform.proofs.Filling.{blocks_more, wholes_kind}
use Rattle.ring_transform.proofs.layers.join_layer.Goals as goal

pub loop-i-preserved : goal.loop-i-preserved
loop-i-preserved g c =
    record {
      blocks = blocks_more (λ (k : ℕ) (parts whole : ℕ → ℤ). Remainders g.row.P c.args.half 1 c.args.depth k 2 whole parts) (2 * c.args.half) c.loop-i.i c.args.a.now c.loop-i.a c.join_block.new.a (wholes_kind g.row.P c.args.half 1 c.args.depth 2) c.loop-i.invariant.blocks c.join_block.ensures.remainders c.join_block.ensures.rest;
      residues = c.join_block.ensures.residues;
    }
