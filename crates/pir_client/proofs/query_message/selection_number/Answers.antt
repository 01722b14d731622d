use Rattle.std.proofs.Common.{if◌then◌else◌, arith}
use Rattle.ring_poly.proofs.Modulus.{q_some}
use Rattle.pir_client.proofs.QueryNumbers.{selection_there, selection_behind}
use Rattle.pir_client.proofs.query_message.selection_number.Goals as goal

pub returns-then-l-set-clause-value : goal.returns-then-l-set-clause-value
returns-then-l-set-clause-value c =
    selection_behind c.args.set.now c.args.index c.args.x c.digit_count-digits.result c.digit_count-digits.ensures.value (omega arith)

pub returns-then-l-set-clause-below : goal.returns-then-l-set-clause-below
returns-then-l-set-clause-below c = q_some

pub returns-clause-value : goal.returns-clause-value
returns-clause-value c =
    selection_there c.args.set.now c.args.index c.args.x c.digit_count-digits.result (if c.selection.result then 1 else 0) c.power_of.result
    c.digit_count-digits.ensures.value (omega arith)
    c.selection.ensures c.power_of.ensures.value
