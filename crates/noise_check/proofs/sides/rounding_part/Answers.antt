use Rattle.std.proofs.Common.{◌≡◌, refl, sym, ◌∙◌}
use Rattle.spiral_sets.specs.Sets.{q}
use Rattle.ring_poly.proofs.Modulus.{q_is}
use Rattle.noise_check.proofs.sides.rounding_part.Goals as goal

pub returns-clause-value : goal.returns-clause-value
returns-clause-value c =
    let modulus : c.from-2.result ≡ q = c.from-2.ensures ∙ sym q_is in
    rw (c.from.ensures, c.p.ensures.value, modulus, c.from-3.ensures, c.q2.ensures.value) refl
