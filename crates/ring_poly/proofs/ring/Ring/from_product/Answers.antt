use Rattle.std.proofs.Common.{◌≡◌, ℕ, ◌<◌, ◌∙◌, sym, ap, length, lit<, arith}
use Rattle.std.proofs.lemmas.List.Elements.{All-same}
use Rattle.word_prime.specs.Halves.{p1, p2, AreHalves}
use Rattle.ring_poly.proofs.Held.{size_of, held_again}
use Rattle.ring_poly.proofs.Values.{size_of_values, read_back}
use Rattle.ring_poly.proofs.ring.Ring.from_product.Goals as goal

pub copy_from_slice-requires : goal.copy_from_slice-requires
copy_from_slice-requires c =
    omega (arith, size_of c.args.out.now c.out.inside.ones.items c.out.inside.twos.items c.out.view_is, size_of_values c.args.a.now c.a.inside.ones.items c.a.inside.twos.items c.a.view_is, ap length c.deref.ensures.value)

pub inverse-requires : goal.inverse-requires
inverse-requires c =
    let read = c.deref_mut.ensures.value ∙ c.copy_from_slice.ensures.items ∙ c.deref.ensures.value in (
      lit< tt,
      (
        ap length read ∙ size_of_values c.args.a.now c.a.inside.ones.items c.a.inside.twos.items c.a.view_is ∙ c.requires.degree ∙ sym c.self.view_is ∙ sym c.self.invariant.1,
        All-same (λ (x : ℕ). x < p1) c.deref_mut.result.now c.a.inside.ones.items read c.a.invariant.first_residues,
      ),
    )

pub inverse-requires-2 : goal.inverse-requires-2
inverse-requires-2 c =
    let read = c.deref_mut-2.ensures.value ∙ c.copy_from_slice-2.ensures.items ∙ c.deref-2.ensures.value in (
      lit< tt,
      (
        ap length read ∙ c.a.invariant.same ∙ size_of_values c.args.a.now c.a.inside.ones.items c.a.inside.twos.items c.a.view_is ∙ c.requires.degree ∙ sym c.self.view_is ∙ sym c.self.invariant.2,
        All-same (λ (x : ℕ). x < p2) c.deref_mut-2.result.now c.a.inside.twos.items read c.a.invariant.second_residues,
      ),
    )

pub returns : goal.returns
returns c =
    let one = c.deref_mut.ensures.value ∙ c.copy_from_slice.ensures.items ∙ c.deref.ensures.value in
    let two = c.deref_mut-2.ensures.value ∙ c.copy_from_slice-2.ensures.items ∙ c.deref-2.ensures.value in
    let size : length c.inverse.new.a ≡ c.self.inside.degree = omega (arith, ap length one, size_of_values c.args.a.now c.a.inside.ones.items c.a.inside.twos.items c.a.view_is, c.self.view_is) in
    let halves : AreHalves c.inverse.new.a c.inverse-2.new.a = record {
      same = omega (arith, ap length one, ap length two, c.a.invariant.same);
      first = c.inverse.ensures.residues;
      second = c.inverse-2.ensures.residues;
    } in
    held_again c.copy_from_slice.new.self.len c.copy_from_slice-2.new.self.len c.inverse.new.a c.inverse-2.new.a _ _ (omega arith) (omega arith)
    (read_back c.self.inside.degree c.self.inside.first c.self.inside.second c.args.a.now c.a.inside.ones.items c.a.inside.twos.items c.deref_mut.result.now c.deref_mut-2.result.now c.inverse.new.a c.inverse-2.new.a
    c.self.invariant.0 c.self.invariant.1 c.self.invariant.2 c.a.view_is size halves one two c.inverse.ensures.values c.inverse-2.ensures.values)
