use Rattle.std.proofs.Common.{◌≡◌, ◌++◌, take, All}
use Rattle.spiral_model.specs.Replies.{IsTernary}
use Rattle.regev_code.specs.Shapes.{secret_row}
use Rattle.pir_client.proofs.state.push_row.Given as goal

abbrev pub invariant-loop-place : goal.invariant-loop-place
invariant-loop-place l = (l.out.items ≡ l.fn.out.items ++ take l.place (secret_row l.secret l.r)) × All IsTernary l.out.items
