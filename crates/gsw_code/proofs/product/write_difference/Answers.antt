use Rattle.std.proofs.Common.{length}
use Rattle.gsw_code.proofs.Products.{difference_written}
use Rattle.gsw_code.proofs.product.write_difference.Goals as goal

pub returns-clause-value : goal.returns-clause-value
returns-clause-value c =
    difference_written (length c.args.high.now) c.args.out.now c.clear.new.self c.add_assign.new.self c.sub_assign.new.self c.args.high.now c.args.low.now
    c.requires.room c.clear.ensures c.add_assign.ensures.value c.sub_assign.ensures.value
