use Rattle.std.proofs.Common.{ℕ, ℤ}
use Rattle.ring_transform.specs.Remainders.{Remainders}
use Rattle.ring_transform.proofs.Filling.{blocks_more, parts_kind}
use Rattle.ring_transform.proofs.layers.part_fours.Goals as goal

pub loop-i-preserved : goal.loop-i-preserved
loop-i-preserved g c =
    record {
      blocks = blocks_more (λ (k : ℕ) (whole parts : ℕ → ℤ). Remainders g.row.P 1 2 c.args.depth k 1 whole parts) 4 c.loop-i.i c.args.a.now c.loop-i.a c.part_four.new.a (parts_kind g.row.P 1 2 c.args.depth 1) c.loop-i.invariant.blocks c.part_four.ensures.remainders c.part_four.ensures.rest;
      residues = c.part_four.ensures.residues;
    }
