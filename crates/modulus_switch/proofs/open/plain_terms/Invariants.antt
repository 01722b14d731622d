use Rattle.std.proofs.Common.{◌≡◌, ◌-◌, ◌*◌, ◌^◌, ◌≤◌, ◌*ℤ◌, unsigned_abs}
use Rattle.negacyclic.specs.Sums.{total}
use Rattle.negacyclic.specs.Ring.{at}
use Rattle.modulus_switch.specs.Numbers.{secret_number}
use Rattle.modulus_switch.proofs.open.plain_terms.Given as goal

abbrev pub invariant-loop-i : goal.invariant-loop-i
invariant-loop-i l = record {
  value : l.sum ≡ total l.i (λ i. secret_number l.secret i *ℤ at l.a (l.k - i));
  size : unsigned_abs l.sum ≤ l.i * 2 ^ 30;
}
