use Rattle.std.proofs.Common.{ℕ, ◌+◌, ◌∙◌, ap}
use Rattle.spiral_model.specs.Queries.{halved}
use Rattle.pir_client.proofs.QueryNumbers.{first_side, selection_side}
use Rattle.pir_client.proofs.query_message.query_number.Goals as goal

pub returns-then-k-eq0-clause-value : goal.returns-then-k-eq0-clause-value
returns-then-k-eq0-clause-value c =
    first_side c.args.set.now c.args.index c.args.k c.first_value.result c.halved.result c.if-k-eq0.true c.first_value.ensures.value c.halved.ensures.value

pub returns-else-k-eq0-clause-value : goal.returns-else-k-eq0-clause-value
returns-else-k-eq0-clause-value c =
    selection_side c.args.set.now c.args.index c.args.k c.selection_number.result c.halved-else-k-eq0.result c.if-k-eq0.false c.selection_number.ensures.value
    (c.halved-else-k-eq0.ensures.value ∙ ap (λ (r : ℕ). halved (1 + r) c.selection_number.result) c.rho.ensures.value)
