use Rattle.std.proofs.Common.{◌∙◌, ap, sym, ℕ, ◌-◌, arith}
use Rattle.negacyclic.proofs.Signed.{value_low, value_high}
use Rattle.spiral_model.specs.Sets.{q}
use Rattle.ring_poly.proofs.Modulus.{q_is}
use Rattle.first_dim.proofs.entries.residue_of.Goals as goal

pub returns-then-v-p-clause-value : goal.returns-then-v-p-clause-value
returns-then-v-p-clause-value c =
    value_low q c.args.p c.args.v (omega (arith, q_is)) c.if-v-p.true

pub returns-else-v-p-clause-value : goal.returns-else-v-p-clause-value
returns-else-v-p-clause-value c =
    ap (λ (m : ℕ). m - (c.args.p - c.args.v)) (sym q_is) ∙ value_high q c.args.p c.args.v (omega (arith, q_is)) c.requires.value c.if-v-p.false
