use Rattle.query_expand.proofs.Rounds.{StartsWith}
use Rattle.query_expand.proofs.expansion.with_zeros.Given as goal

abbrev pub invariant-loop : goal.invariant-loop
invariant-loop l = StartsWith l.set.degree l.c l.counter l.ciphers.items
