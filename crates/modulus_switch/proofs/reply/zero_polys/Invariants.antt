use Rattle.std.proofs.Common.{◌≡◌, replicate}
use Rattle.modulus_switch.proofs.reply.zero_polys.Given as goal

abbrev pub invariant-loop : goal.invariant-loop
invariant-loop l = l.polys.items ≡ replicate l.counter (replicate l.degree 0)
