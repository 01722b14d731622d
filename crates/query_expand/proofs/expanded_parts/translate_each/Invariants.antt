use Rattle.query_expand.proofs.Expansions.{TranslatesEach}
use Rattle.query_expand.proofs.expanded_parts.translate_each.Given as goal

abbrev pub invariant-loop-l : goal.invariant-loop-l
invariant-loop-l l = TranslatesEach l.set l.keys l.ciphers l.l l.gsws.items l.scratch
