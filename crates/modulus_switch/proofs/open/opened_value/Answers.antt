use Rattle.std.proofs.Common.{◌∙◌, arith}
use Rattle.modulus_switch.proofs.Opening.{opened_is}
use Rattle.modulus_switch.proofs.open.opened_value.Goals as goal

pub returns : goal.returns
returns c =
    c.nearest_residue.ensures
    ∙ opened_is c.args.set.now c.p-p.result c.q1-q1.result c.q2-q2.result c.args.b c.args.sa c.scaled_difference.result c.times-x.result
    c.p-p.ensures.value c.q1-q1.ensures.value c.q2-q2.ensures.value (omega arith) c.requires.product c.scaled_difference.ensures.size
    (record { sfits = c.times-x.type_inv }) c.scaled_difference.ensures.value c.times-x.ensures
