use Rattle.std.proofs.Common.{◌%◌, ◌^◌, ℕ, ◌∙◌, ap}
use Rattle.ring_transform.specs.Points.{generator, node}
use Rattle.ring_transform.proofs.twiddles.node.Goals as goal

pub returns : goal.returns
unfolding node
returns g c = c.power.ensures.value ∙ ap (λ (e : ℕ). generator g.row.P ^ e % g.row.P) c.exponent.ensures.value
