use Rattle.std.proofs.Common.{◌≡◌, ◌*◌, ◌<◌, ◌*ℤ◌, length, All}
use Rattle.negacyclic.specs.Sums.{total}
use Rattle.negacyclic.specs.Ring.{at, turn, reduced}
use Rattle.ring_poly.proofs.lanes.auto.Given as goal

abbrev pub invariant-loop-i : goal.invariant-loop-i
invariant-loop-i g l = record {
  terms : l.out ≡ reduced g.row.P (length l.a) (λ k. total l.i (λ i. turn (length l.a) k (l.g * i) *ℤ at l.a i));
  residues : All (λ x. x < g.row.P) l.out;
}
