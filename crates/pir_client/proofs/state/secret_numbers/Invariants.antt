use Rattle.std.proofs.Common.{◌≡◌, take, All}
use Rattle.std.specs.List.{flat_map}
use Rattle.spiral_model.specs.Replies.{IsTernary}
use Rattle.pir_client.proofs.state.secret_numbers.Given as goal

abbrev pub invariant-loop-r : goal.invariant-loop-r
invariant-loop-r l = (l.out.items ≡ flat_map (λ row. row) (take l.r l.secret.rows)) × All IsTernary l.out.items
