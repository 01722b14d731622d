use Rattle.std.proofs.Common.{◌+◌, arith}
use Rattle.spiral_model.specs.Sets.{rows}
use Rattle.first_dim.proofs.PlaceSums.{cleared, cleared_is_sum, column_done}
use Rattle.first_dim.proofs.columns.product_into.Goals as goal

pub add_places-requires-clause-sum : goal.add_places-requires-clause-sum
add_places-requires-clause-sum c =
    cleared_is_sum c.args.set.now.degree (rows c.args.set.now + 1) c.clear.new.self
    (cleared c.args.set.now.degree (rows c.args.set.now + 1) c.args.sum.now c.clear.new.self (omega arith) c.requires.sum c.clear.ensures)

pub returns-clause-value : goal.returns-clause-value
returns-clause-value c =
    column_done c.args.set.now c.args.matrices.now c.args.firsts.now c.args.j c.args.c c.clear.new.self c.add_places.new.sum c.from_form.new.out
    (cleared c.args.set.now.degree (rows c.args.set.now + 1) c.args.sum.now c.clear.new.self (omega arith) c.requires.sum c.clear.ensures)
    c.add_places.ensures.value c.from_form.ensures
