use Rattle.std.proofs.Common.{◌≡◌, ℕ, ◌<◌, get_or, length}
use Rattle.ring_transform.specs.Tables.{IsFactor}
use Rattle.ring_transform.proofs.twiddles.quotients.Given as goal

abbrev pub invariant-loop-i : goal.invariant-loop-i
invariant-loop-i g l = record {
  count : length l.found.items ≡ l.i;
  factor : (k : ℕ) → k < l.i → IsFactor g.row.P (get_or l.factors k 0) (get_or l.found.items k 0);
}
