use Rattle.std.proofs.Common.{◌≡◌, ◌+◌, All}
use Rattle.negacyclic.proofs.Filled.{Filled}
use Rattle.spiral_model.specs.Sets.{rows}
use Rattle.regev_code.specs.Products.{HasShape}
use Rattle.fold_dims.proofs.Folds.{selected_at}
use Rattle.fold_dims.proofs.steps.fold_half.Given as goal

abbrev pub invariant-loop-x : goal.invariant-loop-x
invariant-loop-x l = record {
  so_far : Filled (selected_at l.ring l.fn.scratch.w_gsw l.gsw l.fn.low l.high) l.fn.low l.x l.low;
  shapes : All (HasShape l.ring (rows l.fn.scratch + 1)) l.low;
  kept : l.scratch ≡ l.fn.scratch;
}
