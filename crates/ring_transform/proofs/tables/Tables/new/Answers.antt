use Rattle.std.proofs.Common.{ℕ, List, subst}
use Rattle.ring_transform.specs.Tables.{AreQuotients}
use Rattle.ring_transform.proofs.Composed.{tables_made}
use Rattle.ring_transform.proofs.tables.Tables.new.Goals as goal

pub invariant_of-result : goal.invariant_of-result
invariant_of-result g c =
    tables_made g.row.P c.args.n c.layers_of-depth.result c.inverse_of_power-scale.result c.quotient_of.result c.in_ok-factors.factors.items c.in_ok-quotients.field-0.items c.in_ok-inverse_factors.inverse_factors.items c.in_ok-quotients-2.field-0.items c.in_ok-leaves.field-0.items
    c.requires.prime c.requires.degree c.layers_of-depth.ensures.depth c.in_ok-factors.ensures.count c.in_ok-factors.ensures.entries
    (subst (λ (xs : List ℕ). AreQuotients g.row.P xs c.in_ok-quotients.field-0.items) c.deref.ensures.value c.in_ok-quotients.ensures)
    c.in_ok-inverse_factors.ensures.count c.in_ok-inverse_factors.ensures.entries
    (subst (λ (xs : List ℕ). AreQuotients g.row.P xs c.in_ok-quotients-2.field-0.items) c.deref-2.ensures.value c.in_ok-quotients-2.ensures) c.in_ok-leaves.ensures c.quotient_of.ensures c.inverse_of_power-scale.ensures.value
