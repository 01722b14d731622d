use Rattle.std.proofs.Common.{◌≡◌, ◌≤◌, take}
use Rattle.spiral_model.specs.Noise.{secret_weight}
use Rattle.regev_code.specs.Shapes.{secret_row}
use Rattle.noise_check.proofs.workspace.weight_of.Given as goal

abbrev pub invariant-loop-place : goal.invariant-loop-place
invariant-loop-place l = record { value : l.weight ≡ secret_weight (take l.place (secret_row l.secrets l.r)); size : l.weight ≤ l.place }
