use Rattle.std.proofs.Common.{◌≡◌, ◌+◌, ◌-◌, ◌+ℤ◌, ◌*ℤ◌, sym, arith, to_z, w64}
use Rattle.std.proofs.lemmas.Int.{ints}
use Rattle.negacyclic.specs.Sums.{total}
use Rattle.negacyclic.specs.Ring.{at}
use Rattle.negacyclic.proofs.Sums.{total_none}
use Rattle.modulus_switch.specs.Numbers.{secret_number}
use Rattle.modulus_switch.proofs.Opening.{plain_step}
use Rattle.modulus_switch.proofs.open.plain_terms.Goals as goal

pub loop-i-init : goal.loop-i-init
loop-i-init c = record {
  value = sym (total_none (λ i. secret_number c.args.secret.now i *ℤ at c.args.a.now (c.args.k - i)));
  size = omega arith;
}

pub loop-i-preserved : goal.loop-i-preserved
loop-i-preserved c =
    let step : to_z w64 c.loop-i.sum-bits +ℤ c.signed-sum.result ≡ total (c.loop-i.i + 1) (λ i. secret_number c.args.secret.now i *ℤ at c.args.a.now (c.args.k - i)) =
    plain_step c.args.secret.now c.args.a.now c.args.k c.loop-i.i (to_z w64 c.loop-i.sum-bits) c.signed-sum.result (omega arith) c.requires.ternary c.loop-i.invariant.value c.signed-sum.ensures.value in
    record { value = omega (arith, ints); size = omega (arith, ints) }
