use Rattle.std.proofs.Common.{ℕ, ◌<◌, ◌∙◌, sym, ap, length, lit<, arith}
use Rattle.std.proofs.lemmas.List.Elements.{All-same}
use Rattle.word_prime.specs.Halves.{p1, p2}
use Rattle.ring_poly.proofs.Held.{size_of}
use Rattle.ring_poly.proofs.Values.{Shows, size_of_values, written, shown_again}
use Rattle.ring_poly.proofs.ring.Ring.to_product.Goals as goal

pub copy_from_slice-requires : goal.copy_from_slice-requires
copy_from_slice-requires c =
    omega (arith, size_of_values c.args.out.now c.out.inside.ones.items c.out.inside.twos.items c.out.view_is, size_of c.args.a.now c.a.inside.ones.items c.a.inside.twos.items c.a.view_is, ap length c.deref.ensures.value)

pub forward-requires : goal.forward-requires
forward-requires c =
    let read = c.deref_mut.ensures.value ∙ c.copy_from_slice.ensures.items ∙ c.deref.ensures.value in (
      lit< tt,
      (
        ap length read ∙ size_of c.args.a.now c.a.inside.ones.items c.a.inside.twos.items c.a.view_is ∙ c.requires.degree ∙ sym c.self.view_is ∙ sym c.self.invariant.1,
        All-same (λ (x : ℕ). x < p1) c.deref_mut.result.now c.a.inside.ones.items read c.a.invariant.first,
      ),
    )

pub forward-requires-2 : goal.forward-requires-2
forward-requires-2 c =
    let read = c.deref_mut-2.ensures.value ∙ c.copy_from_slice-2.ensures.items ∙ c.deref-2.ensures.value in (
      lit< tt,
      (
        ap length read ∙ c.a.invariant.same ∙ size_of c.args.a.now c.a.inside.ones.items c.a.inside.twos.items c.a.view_is ∙ c.requires.degree ∙ sym c.self.view_is ∙ sym c.self.invariant.2,
        All-same (λ (x : ℕ). x < p2) c.deref_mut-2.result.now c.a.inside.twos.items read c.a.invariant.second,
      ),
    )

-- the values show the polynomial
shown : (c : goal.After-out-2-1) → Shows c.self.inside.degree c.args.a.now c.forward.new.a c.forward-2.new.a
shown c =
    let one = c.deref_mut.ensures.value ∙ c.copy_from_slice.ensures.items ∙ c.deref.ensures.value in
    let two = c.deref_mut-2.ensures.value ∙ c.copy_from_slice-2.ensures.items ∙ c.deref-2.ensures.value in
    written c.self.inside.degree c.self.inside.first c.self.inside.second c.args.a.now c.a.inside.ones.items c.a.inside.twos.items c.deref_mut.result.now c.deref_mut-2.result.now c.forward.new.a c.forward-2.new.a
    c.self.invariant.0 c.self.invariant.1 c.self.invariant.2 c.a.view_is c.a.invariant (size_of c.args.a.now c.a.inside.ones.items c.a.inside.twos.items c.a.view_is ∙ c.requires.degree ∙ sym c.self.view_is) one two
    c.forward.ensures.values c.forward-2.ensures.values

pub invariant_of-out : goal.invariant_of-out
invariant_of-out c = (shown_again c.copy_from_slice.new.self.len c.copy_from_slice-2.new.self.len c.forward.new.a c.forward-2.new.a _ _ (omega arith) (omega arith) (shown c)).valid

pub returns : goal.returns
returns c = (shown_again c.copy_from_slice.new.self.len c.copy_from_slice-2.new.self.len c.forward.new.a c.forward-2.new.a _ _ (omega arith) (omega arith) (shown c)).view
