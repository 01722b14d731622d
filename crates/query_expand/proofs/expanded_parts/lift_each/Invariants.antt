use Rattle.query_expand.proofs.Expansions.{LiftsEach}
use Rattle.query_expand.proofs.expanded_parts.lift_each.Given as goal

abbrev pub invariant-loop-c : goal.invariant-loop-c
invariant-loop-c l = LiftsEach l.ring l.fn.scratch l.keys l.ciphers l.c-index l.firsts.items l.scratch
