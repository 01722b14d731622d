use Rattle.std.proofs.Common.{◌≡◌, ◌≤◌, ◌-◌, length, take}
use Rattle.tool_local.proofs.local.read_message.Given as goal

abbrev pub invariant-pieces : goal.invariant-pieces
invariant-pieces l = (l.frame ≡ record { kinds = 24; bytes = take l.at l.bytes }) × (l.at ≤ length l.bytes)

abbrev pub decreases-pieces : goal.decreases-pieces
decreases-pieces l = length l.bytes - l.at
