use Rattle.std.proofs.Common.{ℕ, length, ◌∙◌, ap, sym, subst}
use Rattle.std.proofs.lemmas.List.{length-replicate}
use Rattle.negacyclic.proofs.Stands.{length-reduced}
use Rattle.spiral_sets.proofs.SetBounds.{degree_cases}
use Rattle.ring_poly.specs.Polynomials.{IsDegree}
use Rattle.pir_client.proofs.QueryNumbers.{query_poly-is, length-query_poly}
use Rattle.pir_client.proofs.query_message.query_poly.Goals as goal

pub query_numbers-requires-clause-degree : goal.query_numbers-requires-clause-degree
query_numbers-requires-clause-degree c =
    ap length (c.as_mut_slice-scratch.ensures.value ∙ c.in_ok-numbers.ensures) ∙ length-replicate {A = ℕ} c.args.set.now.degree 0

pub from_coeffs-requires-clause-degree : goal.from_coeffs-requires-clause-degree
from_coeffs-requires-clause-degree c =
    subst (λ (n : ℕ). IsDegree n) (sym (ap length c.query_numbers.ensures.value ∙ length-reduced _ c.args.set.now.degree _))
    (degree_cases c.args.set.now c.requires)

pub returns-clause-value : goal.returns-clause-value
returns-clause-value c =
    query_poly-is c.args.set.now c.args.index c.in_ok-from_coeffs.field-0 (c.in_ok-from_coeffs.ensures ∙ c.query_numbers.ensures.value)

pub returns-clause-degree : goal.returns-clause-degree
returns-clause-degree c =
    ap length (query_poly-is c.args.set.now c.args.index c.in_ok-from_coeffs.field-0 (c.in_ok-from_coeffs.ensures ∙ c.query_numbers.ensures.value))
    ∙ length-query_poly c.args.set.now c.args.index
