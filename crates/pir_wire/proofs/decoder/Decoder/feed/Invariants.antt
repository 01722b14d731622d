use Rattle.std.proofs.Common.{◌-◌, length}
use Rattle.pir_wire.proofs.Feeds.{HasFed}
use Rattle.pir_wire.proofs.decoder.Decoder.feed.Given as goal

abbrev pub invariant-loop-place : goal.invariant-loop-place
invariant-loop-place l = HasFed l.fn.self l.self l.piece l.place

abbrev pub decreases-loop-place : goal.decreases-loop-place
decreases-loop-place l = length l.piece - l.place
