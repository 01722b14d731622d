use Rattle.std.proofs.Common.{◌≡◌, ℕ, ◌+◌, ◌*◌, ◌^◌, ◌≤◌, length, All}
use Rattle.spiral_model.specs.Sets.{rows}
use Rattle.regev_code.specs.Products.{HasShape}
use Rattle.fold_dims.proofs.Folds.{Folds}
use Rattle.fold_dims.proofs.steps.fold_all.Given as goal

abbrev pub invariant-loop-gsw : goal.invariant-loop-gsw
invariant-loop-gsw l = record {
  folds : (count : ℕ) → length l.fn.ciphers ≡ 2 ^ length l.gsws * count → Folds l.ring l.fn.scratch.w_gsw count l.gsws l.fn.ciphers l.gsw-index l.size l.ciphers;
  within : l.size ≤ length l.ciphers;
  shapes : All (HasShape l.ring (rows l.fn.scratch + 1)) l.ciphers;
  kept : l.scratch ≡ l.fn.scratch;
}
