use Rattle.std.proofs.Common.{◌∙◌, ℕ, ap, length, replicate, subst, arith}
use Rattle.ring_poly.specs.Polynomials.{IsDegree}
use Rattle.ring_poly.proofs.Values.{Shows, zeros_show, shown_as, shown_again, size_of_values}
use Rattle.ring_poly.proofs.product.PolyT.clear.Goals as goal

-- zeros show 0
shown : (c : goal.After-self-2-1) → Shows (length c.args.self.now) (replicate (length c.args.self.now) 0) c.clear.new.a c.clear-2.new.a
shown c =
    let size = size_of_values c.args.self.now c.self.inside.ones.items c.self.inside.twos.items c.self.view_is in
    shown_as (c.clear.ensures ∙ ap (λ (n : ℕ). replicate n 0) (ap length c.deref_mut.ensures.value ∙ size)) (c.clear-2.ensures ∙ ap (λ (n : ℕ). replicate n 0) (ap length c.deref_mut-2.ensures.value ∙ c.self.invariant.same ∙ size))
    (zeros_show (length c.args.self.now) (subst IsDegree size c.self.invariant.degree))

pub invariant_of-self : goal.invariant_of-self
invariant_of-self c = (shown_again c.self.inside.ones.len c.self.inside.twos.len c.clear.new.a c.clear-2.new.a _ _ (omega arith) (omega arith) (shown c)).valid

pub returns : goal.returns
returns c = (shown_again c.self.inside.ones.len c.self.inside.twos.len c.clear.new.a c.clear-2.new.a _ _ (omega arith) (omega arith) (shown c)).view
