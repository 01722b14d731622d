use Rattle.auto_switch.proofs.Applied.{applied_is}
use Rattle.auto_switch.proofs.apply.apply_auto.Goals as goal

pub returns-clause-value : goal.returns-clause-value
returns-clause-value c =
    applied_is c.args.ring.now c.args.g c.args.key.now c.args.c.now c.switch_key.new.out c.row-2.result.now c.row.result.now c.auto-2.new.out c.auto.new.out c.row-2.ensures c.row.ensures
    c.auto-2.ensures.value c.auto.ensures.value c.switch_key.ensures.value
