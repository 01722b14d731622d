use Rattle.std.proofs.Common.{arith}
use Rattle.negacyclic.proofs.Filled.{filled_all}
use Rattle.fold_dims.proofs.Folds.{selected_at}
use Rattle.fold_dims.proofs.steps.fold_half.Goals as goal

pub returns-clause-value : goal.returns-clause-value
returns-clause-value c =
    filled_all (selected_at c.args.ring.now c.args.scratch.now.w_gsw c.args.gsw.now c.args.low.now c.args.high.now) c.args.low.now c.loop-x.x c.loop-x.low (omega arith)
    c.loop-x.invariant.so_far
