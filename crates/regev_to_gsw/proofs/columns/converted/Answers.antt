use Rattle.std.proofs.Common.{◌+◌, ◌∙◌, ap, subst, sym}
use Rattle.spiral_sets.specs.declared.param_set.ParamSet.{ParamSet}
use Rattle.spiral_sets.specs.Sets.{rows}
use Rattle.regev_code.specs.Products.{HasShape}
use Rattle.regev_code.specs.KeyShapes.{IsKeyOf}
use Rattle.regev_to_gsw.proofs.Translations.{zeros-rows, converted-value}
use Rattle.regev_to_gsw.proofs.columns.converted.Goals as goal

pub convert_into-requires-clause-key : goal.convert_into-requires-clause-key
convert_into-requires-clause-key c =
    subst (λ (s : ParamSet). IsKeyOf s (rows s) c.conversion_key.result.now) (c.requires.keys ∙ sym c.requires.scratch) c.conversion_key.ensures.key

pub convert_into-requires-clause-out : goal.convert_into-requires-clause-out
convert_into-requires-clause-out c =
    zeros-rows c.args.ring.now c.rows.result (rows c.args.scratch.now) c.args.set.now c.in_ok-out.out c.requires.ring
    (c.rows.ensures.value ∙ ap (λ (s : ParamSet). rows s) (sym c.requires.scratch)) c.in_ok-out.ensures

pub returns-clause-value : goal.returns-clause-value
returns-clause-value c =
    converted-value c.args.ring.now c.args.set.now c.args.scratch.now c.args.keys.now.conv c.conversion_key.result.now c.args.c.now c.convert_into.new.out c.requires.ring
    c.requires.scratch c.conversion_key.ensures.value c.convert_into.ensures.value

pub returns-clause-shape : goal.returns-clause-shape
returns-clause-shape c = subst (λ (s : ParamSet). HasShape c.args.ring.now (rows s + 1) c.convert_into.new.out) c.requires.scratch c.convert_into.ensures.shape
