use Rattle.std.proofs.Common.{◌≡◌, replicate}
use Rattle.pir_server.proofs.answering.scratches.Given as goal

abbrev pub invariant-loop : goal.invariant-loop
invariant-loop l = l.scratch.items ≡ replicate l.counter l.set
