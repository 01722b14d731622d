use Rattle.std.proofs.Common.{ℕ, ℤ}
use Rattle.ring_transform.specs.Remainders.{Remainders}
use Rattle.ring_transform.proofs.Filling.{blocks_more, wholes_kind}
use Rattle.ring_transform.proofs.layers.join_fours.Goals as goal

pub loop-i-preserved : goal.loop-i-preserved
loop-i-preserved g c =
    record {
      blocks = blocks_more (λ (k : ℕ) (parts whole : ℕ → ℤ). Remainders g.row.P 1 2 c.args.depth k 4 whole parts) 4 c.loop-i.i c.args.a.now c.loop-i.a c.join_four.new.a (wholes_kind g.row.P 1 2 c.args.depth 4) c.loop-i.invariant.blocks c.join_four.ensures.remainders c.join_four.ensures.rest;
      residues = c.join_four.ensures.residues;
    }
