use Rattle.std.proofs.Common.{◌<◌, ◌∙◌, ℕ, sym, ap, length}
use Rattle.std.proofs.lemmas.List.Elements.{All-same}
use Rattle.spiral_sets.specs.Sets.{q}
use Rattle.word_prime.specs.Halves.{joined}
use Rattle.word_prime.proofs.Joined.{joined-below}
use Rattle.ring_poly.proofs.Held.{size_of}
use Rattle.ring_poly.proofs.poly.Poly.coeffs_into.Goals as goal

pub join-requires-clause-room : goal.join-requires-clause-room
join-requires-clause-room c =
    c.requires ∙ sym (size_of c.args.self.now c.self.inside.ones.items c.self.inside.twos.items c.self.view_is) ∙ ap length (sym c.deref.ensures.value)

pub returns-clause-residues : goal.returns-clause-residues
returns-clause-residues c = All-same (λ (x : ℕ). x < q) c.join.new.out (joined c.deref.result.now c.deref-2.result.now) c.join.ensures (joined-below c.deref.result.now c.deref-2.result.now)
