use Rattle.std.proofs.Common.{◌^◌, ◌<◌, ◌≤◌}
use Rattle.pir_wire.specs.Headers.{frame_len_of}
use Rattle.pir_wire.proofs.Headers.{FirstRows}
use Rattle.pir_wire.proofs.decoding.header.reading_limit.Given as goal

abbrev pub invariant-loop-i : goal.invariant-loop-i
invariant-loop-i l = (l.longest < 2 ^ 25) × FirstRows (λ set. frame_len_of l.kind set ≤ l.longest) l.i
