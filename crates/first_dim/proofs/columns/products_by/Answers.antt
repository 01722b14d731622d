use Rattle.std.proofs.Common.{arith}
use Rattle.first_dim.proofs.ProductPlaces.{products_all}
use Rattle.first_dim.proofs.columns.products_by.Goals as goal

pub returns-clause-value : goal.returns-clause-value
returns-clause-value c =
    products_all c.args.set.now c.args.matrices.now c.args.firsts.now c.args.out.now c.loop-place.place c.loop-place.out c.requires.count
    (omega (arith, c.loop-place-test.false)) c.loop-place.invariant.so_far
