use Rattle.pir_wire.specs.Headers.{HasOtherFront}
use Rattle.pir_wire.proofs.Headers.{FirstRows}
use Rattle.pir_wire.proofs.decoding.header.read_header.Given as goal

abbrev pub invariant-loop-i : goal.invariant-loop-i
invariant-loop-i l = FirstRows (HasOtherFront l.kind l.bytes) l.i
