use Rattle.std.proofs.Common.{[]}
use Rattle.negacyclic.proofs.Filled.{filled_from}
use Rattle.regev_code.proofs.product_form.rows_from_form.Goals as goal

pub returns : goal.returns
returns c =
    filled_from c.args.from.now [] c.args.to.now c.loop-i.i c.loop-i.to c.loop-i-test.false c.requires.same_length c.loop-i.invariant
