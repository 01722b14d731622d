use Rattle.std.proofs.Common.{◌≤◌, take, All}
use Rattle.pir_wire.proofs.decoder.state.small_count.Given as goal

abbrev pub invariant-loop-i : goal.invariant-loop-i
invariant-loop-i l = All (λ b. b ≤ 2) (take l.i l.bytes)
