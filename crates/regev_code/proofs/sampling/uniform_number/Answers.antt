use Rattle.std.proofs.Common.{◌≡◌, sym, ◌∙◌, arith}
use Rattle.spiral_model.specs.Sets.{q}
use Rattle.ring_poly.proofs.Modulus.{q_is, q_some}
use Rattle.regev_code.proofs.sampling.uniform_number.Goals as goal

pub returns-clause-value : goal.returns-clause-value
returns-clause-value c =
    let modulus : c.from-3.result ≡ q = c.from-3.ensures ∙ sym q_is in rw (c.from.ensures, c.from-2.ensures, modulus)

pub returns-clause-below : goal.returns-clause-below
returns-clause-below c = omega (arith, q_is, q_some)
