use Rattle.std.proofs.Common.{◌≡◌, ℕ, ◌+◌, ◌-ℤ◌, ◌∙◌, ap, sym, arith, to_z, w64, length}
use Rattle.std.proofs.lemmas.Int.{ints, to_z-of_z}
use Rattle.negacyclic.specs.Sums.{total}
use Rattle.negacyclic.specs.Ring.{at}
use Rattle.negacyclic.proofs.Turn.{product_term, product_at-terms}
use Rattle.modulus_switch.specs.Numbers.{secret_number}
use Rattle.modulus_switch.proofs.Opening.{plain_terms_are, wrapped_step}
use Rattle.modulus_switch.proofs.open.secret_product.Goals as goal

pub loop-i-init : goal.loop-i-init
loop-i-init c =
    let kept = to_z-of_z w64 c.plain_terms-sum.result (record { sfits = c.plain_terms-sum.type_inv }) in
    record {
      value = kept ∙ c.plain_terms-sum.ensures.value ∙ plain_terms_are c.args.secret.now c.args.a.now (length c.args.a.now) c.args.k;
      size = rw kept c.plain_terms-sum.ensures.size;
    }

pub loop-i-preserved : goal.loop-i-preserved
loop-i-preserved c =
    let step : to_z w64 c.loop-i.sum-bits -ℤ c.signed-sum.result ≡ total (c.loop-i.i + 1) (product_term (length c.args.a.now) (secret_number c.args.secret.now) (at c.args.a.now) c.args.k) =
    wrapped_step c.args.secret.now c.args.a.now (length c.args.a.now) c.args.k c.loop-i.i (to_z w64 c.loop-i.sum-bits) c.signed-sum.result (omega arith) (omega arith) c.requires.ternary c.loop-i.invariant.value c.signed-sum.ensures.value in
    record { value = omega (arith, ints); size = omega (arith, ints) }

pub returns-clause-value : goal.returns-clause-value
returns-clause-value c =
    let end : c.loop-i.i ≡ length c.args.a.now = omega arith in
    c.loop-i.invariant.value
    ∙ ap (λ (n : ℕ). total n (product_term (length c.args.a.now) (secret_number c.args.secret.now) (at c.args.a.now) c.args.k)) end
    ∙ sym (product_at-terms (length c.args.a.now) (secret_number c.args.secret.now) (at c.args.a.now) c.args.k c.requires.place)
