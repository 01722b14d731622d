use Rattle.std.proofs.Common.{◌-◌, arith, ◌∙◌, ap, sym, ℕ}
use Rattle.negacyclic.proofs.Signed.{negative_some, negative_none}
use Rattle.ring_poly.proofs.Modulus.{q_is, q_some}
use Rattle.spiral_sets.specs.Sets.{q}
use Rattle.gsw_code.proofs.intended.negative.Goals as goal

pub overflow_sub-result : goal.overflow_sub-result
overflow_sub-result c = omega (arith, q_is)

pub returns-then-x-eq0-clause-value : goal.returns-then-x-eq0-clause-value
returns-then-x-eq0-clause-value c = negative_none q c.args.x q_some c.if-x-eq0.true

pub returns-else-x-eq0-clause-value : goal.returns-else-x-eq0-clause-value
returns-else-x-eq0-clause-value c =
    ap (λ (n : ℕ). n - c.args.x) (sym q_is) ∙ negative_some q c.args.x (omega arith) c.requires

pub returns-else-x-eq0-clause-below : goal.returns-else-x-eq0-clause-below
returns-else-x-eq0-clause-below c = omega (arith, q_is, c.if-x-eq0.false)
