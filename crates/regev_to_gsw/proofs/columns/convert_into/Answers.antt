use Rattle.std.proofs.Common.{◌∙◌, ap}
use Rattle.spiral_sets.specs.declared.param_set.ParamSet.{ParamSet}
use Rattle.spiral_sets.specs.Sets.{rows}
use Rattle.regev_to_gsw.proofs.Translations.{converted_is}
use Rattle.regev_to_gsw.proofs.columns.convert_into.Goals as goal

pub returns-clause-value : goal.returns-clause-value
returns-clause-value c =
    converted_is c.args.ring.now c.rows-m.result c.args.scratch.now c.args.key.now c.args.c.now c.switch_form.new.out c.args.high.now c.row.result.now
    (c.rows-m.ensures.value ∙ ap (λ (s : ParamSet). rows s) c.scratch.view_is) c.requires.high c.row.ensures c.switch_form.ensures.value
