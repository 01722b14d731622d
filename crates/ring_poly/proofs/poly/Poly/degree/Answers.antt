use Rattle.std.proofs.Common.{◌<◌, List, ℕ, subst, arith}
use Rattle.std.specs.List.{All}
use Rattle.spiral_sets.specs.Sets.{q}
use Rattle.word_prime.proofs.Joined.{joined-below}
use Rattle.ring_poly.proofs.Held.{size_of}
use Rattle.ring_poly.proofs.poly.Poly.degree.Goals as goal

pub returns-clause-value : goal.returns-clause-value
returns-clause-value c = omega (arith, size_of c.args.self.now c.self.inside.ones.items c.self.inside.twos.items c.self.view_is)

pub returns-clause-residues : goal.returns-clause-residues
returns-clause-residues c = subst (λ (a : List ℕ). All (λ x. x < q) a) c.self.view_is (joined-below c.self.inside.ones.items c.self.inside.twos.items)
