use Rattle.std.proofs.Common.{◌-◌, ◌%◌, ◌^◌, ℕ, ◌∙◌, ap}
use Rattle.ring_transform.specs.Points.{generator, inverse_node}
use Rattle.ring_transform.proofs.twiddles.inverse_node.Goals as goal

pub returns : goal.returns
unfolding inverse_node
returns g c = c.power.ensures.value ∙ ap (λ (e : ℕ). generator g.row.P ^ (4096 - e) % g.row.P) c.exponent.ensures.value
