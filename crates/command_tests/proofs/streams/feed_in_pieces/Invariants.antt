use Rattle.std.proofs.Common.{◌-◌, ◌≤◌, length}
use Rattle.frame_streams.specs.Decoding.{HasRoom}
use Rattle.command_tests.proofs.streams.feed_in_pieces.Given as goal

abbrev pub invariant-loop-place : goal.invariant-loop-place
invariant-loop-place l = (l.place ≤ length l.bytes) × HasRoom l.decoder (length l.bytes - l.place)

abbrev pub decreases-loop-place : goal.decreases-loop-place
decreases-loop-place l = length l.bytes - l.place
