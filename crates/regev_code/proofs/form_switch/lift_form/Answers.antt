use Rattle.std.proofs.Common.{ap}
use Rattle.spiral_sets.specs.declared.param_set.ParamSet.{ParamSet}
use Rattle.regev_code.proofs.Switching.{lifted_is}
use Rattle.regev_code.proofs.form_switch.lift_form.Goals as goal

pub returns-clause-value : goal.returns-clause-value
returns-clause-value c =
    lifted_is c.args.ring.now c.scratch.inside.set.n c.args.scratch.now.n c.args.row c.args.key.now c.args.c.now c.switch_form.new.out c.args.high.now
    c.row.result.now
    (ap (λ (s : ParamSet). s.n) c.scratch.view_is) c.requires.high c.row.ensures c.switch_form.ensures.value
