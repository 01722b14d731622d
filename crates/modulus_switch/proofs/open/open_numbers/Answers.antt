use Rattle.std.proofs.Common.{◌≡◌, ◌∙◌, arith}
use Rattle.negacyclic.proofs.Filled.{filled_more, filled_count}
use Rattle.modulus_switch.specs.Numbers.{opened_number}
use Rattle.modulus_switch.proofs.Entries.{number_opened}
use Rattle.modulus_switch.proofs.open.open_numbers.Goals as goal

pub loop-k-preserved : goal.loop-k-preserved
loop-k-preserved c =
    let set = c.args.set.now in
    let value : c.opened_value.result ≡ opened_number set c.args.secret.now c.args.mask.now c.args.b.now c.loop-k.k =
    c.opened_value.ensures
    ∙ number_opened set c.args.secret.now c.args.mask.now c.args.b.now c.loop-k.k c.secret_product.result c.requires.mask_length (record { sfits = c.secret_product.type_inv }) c.secret_product.ensures.value in
    filled_more (opened_number set c.args.secret.now c.args.mask.now c.args.b.now) c.args.out.now c.loop-k.k c.loop-k.out c.opened_value.result (omega arith) c.loop-k.invariant value

pub returns : goal.returns
returns c =
    let set = c.args.set.now in
    filled_count (opened_number set c.args.secret.now c.args.mask.now c.args.b.now) c.args.out.now set.degree c.loop-k.k c.loop-k.out (omega arith) (omega arith) c.loop-k.invariant
