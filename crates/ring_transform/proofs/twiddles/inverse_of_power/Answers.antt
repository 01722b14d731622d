use Rattle.std.proofs.Common.{◌≡◌, ◌+◌, ◌/◌, ◌%◌, ◌^◌, ◌∙◌, ap, ℕ}
use Rattle.ring_transform.proofs.Nodes.{prime_odd, prime_more}
use Rattle.ring_transform.proofs.Sizes.{power_inverse}
use Rattle.ring_transform.proofs.twiddles.inverse_of_power.Goals as goal

pub returns-in-Some-clause-value : goal.returns-in-Some-clause-value
returns-in-Some-clause-value g c =
    let half : c.in-Some.half ≡ (g.row.P + 1) / 2 = c.in-Some.ensures.0 in
    power_inverse g.row.P c.args.depth c.get.result (prime_odd g.row.P c.requires) (prime_more g.row.P c.requires)
    (c.get.ensures.value ∙ c.pow.ensures ∙ ap (λ (h : ℕ). h ^ c.args.depth % g.row.P) half)
