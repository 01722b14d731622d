use Rattle.gsw_code.proofs.Products.{multiplies-none, multiplies-more, multiplies-all}
use Rattle.gsw_code.proofs.gsw.Gsw.multiply.Goals as goal

pub loop-r-init : goal.loop-r-init
loop-r-init c =
    multiplies-none c.args.ring.now c.args.set.now c.args.self.now c.args.c.now c.args.product.now c.clear.new.self c.args.room.now c.requires.c c.requires.product c.clear.ensures c.requires.room

pub loop-r-preserved : goal.loop-r-preserved
loop-r-preserved c =
    multiplies-more c.args.ring.now c.args.set.now c.loop-r.r c.args.self.now c.args.c.now c.loop-r.product c.add_row.new.sum c.row.result.now c.loop-r.room c.add_row.new.room
    c.loop-r.invariant c.row.ensures c.add_row.ensures.value c.add_row.ensures.shape c.add_row.ensures.room

pub returns-clause-value : goal.returns-clause-value
returns-clause-value c =
    multiplies-all c.args.ring.now c.args.set.now c.loop-r.r c.rows-r-end.result c.args.self.now c.args.c.now c.loop-r.product c.loop-r.room c.loop-r.invariant c.rows-r-end.ensures.value
    c.loop-r.auto.r-end c.loop-r-test.false
