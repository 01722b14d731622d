use Rattle.std.proofs.Common.{ℕ, ◌<◌, ◌∙◌, sym, ap, subst, length, inl, inr, refl, lit<, arith}
use Rattle.std.proofs.lemmas.List.Elements.{All-same}
use Rattle.negacyclic.specs.Ring.{ring_mul}
use Rattle.negacyclic.proofs.Lengths.{length-ring_mul}
use Rattle.spiral_sets.specs.Sets.{q}
use Rattle.word_prime.specs.Halves.{p1, p2}
use Rattle.ring_poly.specs.Polynomials.{IsDegree}
use Rattle.ring_poly.proofs.Held.{Holds, size_of, product_held, held_again, halves_again}
use Rattle.ring_poly.proofs.ring.Ring.mul.Goals as goal

pub multiply-requires : goal.multiply-requires
multiply-requires c =
    let size_a = size_of c.in_ok-product.product c.product.inside.ones.items c.product.inside.twos.items c.product.view_is ∙ ap length c.in_ok-product.ensures ∙ c.requires.a_degree ∙ sym c.self.view_is ∙ sym c.self.invariant.1 in
    let size_b = size_of c.in_ok-factor.factor c.factor.inside.ones.items c.factor.inside.twos.items c.factor.view_is ∙ ap length c.in_ok-factor.ensures ∙ c.requires.b_degree ∙ sym c.self.view_is ∙ sym c.self.invariant.1 in (
      lit< tt,
      (
        inl refl,
        (
          subst IsDegree (sym c.self.invariant.1) c.self.invariant.0,
          (
            ap length c.deref_mut.ensures.value ∙ size_a,
            (
              ap length c.deref_mut-2.ensures.value ∙ size_b,
              (
                All-same (λ (x : ℕ). x < p1) c.deref_mut.result.now c.product.inside.ones.items c.deref_mut.ensures.value c.product.invariant.first,
                All-same (λ (x : ℕ). x < p1) c.deref_mut-2.result.now c.factor.inside.ones.items c.deref_mut-2.ensures.value c.factor.invariant.first,
              ),
            ),
          ),
        ),
      ),
    )

pub multiply-requires-2 : goal.multiply-requires-2
multiply-requires-2 c =
    let size_a = c.product.invariant.same ∙ size_of c.in_ok-product.product c.product.inside.ones.items c.product.inside.twos.items c.product.view_is ∙ ap length c.in_ok-product.ensures ∙ c.requires.a_degree ∙ sym c.self.view_is ∙ sym c.self.invariant.2 in
    let size_b = c.factor.invariant.same ∙ size_of c.in_ok-factor.factor c.factor.inside.ones.items c.factor.inside.twos.items c.factor.view_is ∙ ap length c.in_ok-factor.ensures ∙ c.requires.b_degree ∙ sym c.self.view_is ∙ sym c.self.invariant.2 in (
      lit< tt,
      (
        inr refl,
        (
          subst IsDegree (sym c.self.invariant.2) c.self.invariant.0,
          (
            ap length c.deref_mut-3.ensures.value ∙ size_a,
            (
              ap length c.deref_mut-4.ensures.value ∙ size_b,
              (
                All-same (λ (x : ℕ). x < p2) c.deref_mut-3.result.now c.product.inside.twos.items c.deref_mut-3.ensures.value c.product.invariant.second,
                All-same (λ (x : ℕ). x < p2) c.deref_mut-4.result.now c.factor.inside.twos.items c.deref_mut-4.ensures.value c.factor.invariant.second,
              ),
            ),
          ),
        ),
      ),
    )

-- both halves are products
held : (c : goal.After-factor-3-1) → Holds (ring_mul q c.args.self.now c.args.a.now c.args.b.now) c.multiply.new.a c.multiply-2.new.a
held c =
    product_held c.args.self.now c.args.a.now c.product.inside.ones.items c.product.inside.twos.items c.deref_mut.result.now c.deref_mut-3.result.now c.multiply.new.a c.multiply-2.new.a (c.product.view_is ∙ c.in_ok-product.ensures)
    c.product.invariant c.requires.a_degree c.deref_mut.ensures.value c.deref_mut-3.ensures.value c.args.b.now c.factor.inside.ones.items c.factor.inside.twos.items c.deref_mut-2.result.now c.deref_mut-4.result.now
    (c.factor.view_is ∙ c.in_ok-factor.ensures) c.requires.b_degree c.deref_mut-2.ensures.value c.deref_mut-4.ensures.value
    (c.multiply.ensures.value ∙ ap (λ (n : ℕ). ring_mul p1 n c.deref_mut.result.now c.deref_mut-2.result.now) (c.self.invariant.1 ∙ c.self.view_is))
    (c.multiply-2.ensures.value ∙ ap (λ (n : ℕ). ring_mul p2 n c.deref_mut-3.result.now c.deref_mut-4.result.now) (c.self.invariant.2 ∙ c.self.view_is))

pub invariant_of-product : goal.invariant_of-product
invariant_of-product c = halves_again c.product.inside.ones.len c.product.inside.twos.len c.multiply.new.a c.multiply-2.new.a _ _ (omega arith) (omega arith) (held c)

pub invariant_of-factor : goal.invariant_of-factor
invariant_of-factor c =
    halves_again c.factor.inside.ones.len c.factor.inside.twos.len c.multiply.new.b c.multiply-2.new.b _ _ (omega arith) (omega arith)
    (record { view = refl; halves = record { same = omega (arith, c.factor.invariant.same); first = c.multiply.ensures.factor; second = c.multiply-2.ensures.factor } })

pub returns-clause-value : goal.returns-clause-value
returns-clause-value c = held_again c.product.inside.ones.len c.product.inside.twos.len c.multiply.new.a c.multiply-2.new.a _ _ (omega arith) (omega arith) (held c.before)

pub returns-clause-degree : goal.returns-clause-degree
returns-clause-degree c = ap length (returns-clause-value c) ∙ length-ring_mul q c.args.self.now c.args.a.now c.args.b.now
