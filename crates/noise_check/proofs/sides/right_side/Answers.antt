use Rattle.std.proofs.Common.{◌≡◌, refl, sym, ◌∙◌}
use Rattle.spiral_sets.specs.Sets.{q}
use Rattle.ring_poly.proofs.Modulus.{q_is}
use Rattle.noise_check.proofs.sides.right_side.Goals as goal

pub returns : goal.returns
returns c =
    let modulus : c.from.result ≡ q = c.from.ensures ∙ sym q_is in rw (modulus, c.reply_moduli.ensures.value) refl
