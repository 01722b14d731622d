use Rattle.std.proofs.Common.{ap}
use Rattle.spiral_sets.specs.declared.param_set.ParamSet.{ParamSet}
use Rattle.regev_code.proofs.Switching.{lifted_is}
use Rattle.regev_code.proofs.key_switch.lift_row.Goals as goal

pub returns-clause-value : goal.returns-clause-value
returns-clause-value c =
    lifted_is c.args.ring.now c.scratch.inside.set.n c.args.scratch.now.n c.args.row c.args.key.now c.args.c.now c.switch_key.new.out c.row.result.now
    c.row-2.result.now
    (ap (λ (s : ParamSet). s.n) c.scratch.view_is) c.row.ensures c.row-2.ensures c.switch_key.ensures.value
