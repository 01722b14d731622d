use Rattle.std.proofs.Common.{◌≡◌, ◌*◌, ◌^◌, ◌≤◌, length, unsigned_abs}
use Rattle.negacyclic.specs.Sums.{total}
use Rattle.negacyclic.specs.Ring.{at}
use Rattle.negacyclic.proofs.Turn.{product_term}
use Rattle.modulus_switch.specs.Numbers.{secret_number}
use Rattle.modulus_switch.proofs.open.secret_product.Given as goal

abbrev pub invariant-loop-i : goal.invariant-loop-i
invariant-loop-i l = record {
  value : l.sum ≡ total l.i (product_term (length l.a) (secret_number l.secret) (at l.a) l.k);
  size : unsigned_abs l.sum ≤ l.i * 2 ^ 30;
}
