use Rattle.ring_poly.proofs.Summed.{no_products}
use Rattle.ring_poly.proofs.sums.SumT.zero.Goals as goal

pub invariant_of-result : goal.invariant_of-result
invariant_of-result c = (no_products c.args.n _ _ c.requires (c.in_ok-vec.ensures.items_if_clones_equal (λ y e. e)) (c.in_ok-vec-2.ensures.items_if_clones_equal (λ y e. e))).valid

pub returns : goal.returns
returns c = (no_products c.args.n _ _ c.requires (c.in_ok-vec.ensures.items_if_clones_equal (λ y e. e)) (c.in_ok-vec-2.ensures.items_if_clones_equal (λ y e. e))).view
