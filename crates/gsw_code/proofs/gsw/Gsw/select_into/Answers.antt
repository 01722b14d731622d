use Rattle.gsw_code.proofs.Products.{selected_is}
use Rattle.gsw_code.proofs.gsw.Gsw.select_into.Goals as goal

pub returns-then-set-clause-value : goal.returns-then-set-clause-value
returns-then-set-clause-value c =
    selected_is c.args.ring.now c.scratch.inside.set c.args.scratch.now c.args.self.now c.args.low.now c.args.high.now c.multiply_difference.new.sum c.add_form.new.low
    c.scratch.view_is c.multiply_difference.ensures.value c.add_form.ensures.value

pub returns-else-set-clause-value : goal.returns-else-set-clause-value
returns-else-set-clause-value c =
    selected_is c.args.ring.now c.scratch.inside.set c.args.scratch.now c.args.self.now c.args.low.now c.args.high.now c.multiply_difference-else-set.new.sum
    c.add_form-else-set.new.low c.scratch.view_is c.multiply_difference-else-set.ensures.value c.add_form-else-set.ensures.value
