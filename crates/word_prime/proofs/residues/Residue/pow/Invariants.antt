use Rattle.std.proofs.Common.{◌≡◌, ◌*◌, ◌%◌, ◌^◌, ◌<◌}
use Rattle.word_prime.proofs.residues.Residue.pow.Given as goal

abbrev pub invariant-loop-rest : goal.invariant-loop-rest
invariant-loop-rest g l = record {
  value : (l.product * l.power ^ l.rest) % g.row.P ≡ l.fn.self ^ l.exponent % g.row.P;
  below : l.product < g.row.P;
}

abbrev pub decreases-loop-rest : goal.decreases-loop-rest
decreases-loop-rest g l = l.rest
