use Rattle.pir_wire.specs.CipherParts.{Took}
use Rattle.pir_wire.proofs.decoder.parts.take_residues.Given as goal

abbrev pub invariant-loop-k : goal.invariant-loop-k
invariant-loop-k l = Took l.piece l.fn.numbers.items l.numbers.items l.k
