use Rattle.std.proofs.Common.{ℤ, pos, ◌+ℤ◌, ◌-ℤ◌, ◌*ℤ◌, arith}
use Rattle.ring_transform.proofs.Filling.{low_written, high_written}
use Rattle.ring_transform.proofs.layers.joined_halves.Goals as goal

pub returns-clause-low : goal.returns-clause-low
returns-clause-low g c =
    low_written g.row.P c.args.half c.args.block.now c.split_at_mut-low.result.0.now c.split_at_mut-low.result.1.now c.joined_lists.new.low c.joined_lists.new.high c.split_at_mut-low.ensures.value
    (omega (arith, c.split_at_mut-low.ensures.front_len)) (omega (arith, c.split_at_mut-low.ensures.back_len)) (λ (x y : ℤ). x +ℤ y) c.joined_lists.ensures.low

pub returns-clause-high : goal.returns-clause-high
returns-clause-high g c =
    high_written g.row.P c.args.half c.args.block.now c.split_at_mut-low.result.0.now c.split_at_mut-low.result.1.now c.joined_lists.new.low c.joined_lists.new.high c.split_at_mut-low.ensures.value
    (omega (arith, c.split_at_mut-low.ensures.front_len)) (omega (arith, c.split_at_mut-low.ensures.back_len)) (λ (x y : ℤ). (x -ℤ y) *ℤ pos c.args.w) (omega (arith, c.joined_lists.auto.low)) c.joined_lists.ensures.high
