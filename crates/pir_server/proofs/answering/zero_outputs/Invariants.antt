use Rattle.std.proofs.Common.{◌≡◌, ◌+◌, replicate}
use Rattle.pir_server.proofs.answering.zero_outputs.Given as goal

abbrev pub invariant-loop : goal.invariant-loop
invariant-loop l = l.outputs.items ≡ replicate l.counter (replicate (l.rows + 1) (replicate l.set.degree 0))
