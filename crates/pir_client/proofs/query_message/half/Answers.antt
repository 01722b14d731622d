use Rattle.std.proofs.Common.{◌≡◌, ℕ, ◌+◌, ◌/◌, refl, sym, ◌∙◌, ap, arith}
use Rattle.spiral_sets.specs.Sets.{q}
use Rattle.ring_poly.proofs.Modulus.{q_is, q_some}
use Rattle.pir_client.proofs.query_message.half.Goals as goal

pub returns-clause-value : goal.returns-clause-value
returns-clause-value c =
    let inverse : c.from-2.result ≡ (q + 1) / 2 = c.from-2.ensures ∙ ap (λ (n : ℕ). (n + 1) / 2) (sym q_is) in
    let modulus : c.from-3.result ≡ q = c.from-3.ensures ∙ sym q_is in
    rw (c.from.ensures, inverse, modulus) refl

pub returns-clause-below : goal.returns-clause-below
returns-clause-below c = omega (arith, q_is, q_some)
