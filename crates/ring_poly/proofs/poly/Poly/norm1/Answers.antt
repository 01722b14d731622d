use Rattle.std.proofs.Common.{◌≡◌, ℕ, ◌-◌, ◌*◌, ◌/◌, ◌∙◌, ap, length, arith}
use Rattle.spiral_sets.specs.Sets.{q}
use Rattle.ring_poly.proofs.Held.{size_of}
use Rattle.ring_poly.proofs.poly.Poly.norm1.Goals as goal

pub returns-clause-size : goal.returns-clause-size
returns-clause-size c =
    let size : length c.deref.result.now ≡ length c.args.self.now = ap length c.deref.ensures.value ∙ size_of c.args.self.now c.self.inside.ones.items c.self.inside.twos.items c.self.view_is in
    omega (arith, c.norm1.ensures.size, ap (λ (n : ℕ). n * ((q - 1) / 2)) size)
