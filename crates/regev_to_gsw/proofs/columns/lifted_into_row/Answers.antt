use Rattle.std.proofs.Common.{◌+◌, ◌∙◌, ap, subst, sym, arith}
use Rattle.spiral_sets.specs.declared.param_set.ParamSet.{ParamSet}
use Rattle.spiral_model.specs.Packing.{lift_row}
use Rattle.regev_code.specs.Products.{HasShape}
use Rattle.regev_to_gsw.proofs.Translations.{zeros-rows}
use Rattle.regev_to_gsw.proofs.columns.lifted_into_row.Goals as goal

pub lift_form_into-requires-clause-last : goal.lift_form_into-requires-clause-last
lift_form_into-requires-clause-last c = let same = ap (λ (s : ParamSet). s.n) c.requires.scratch in omega (arith, same, c.requires.last)

pub lift_form_into-requires-clause-out : goal.lift_form_into-requires-clause-out
lift_form_into-requires-clause-out c =
    zeros-rows c.args.ring.now c.args.set.now.n c.args.scratch.now.n c.args.set.now c.in_ok-out.out c.requires.ring (ap (λ (s : ParamSet). s.n) (sym c.requires.scratch)) c.in_ok-out.ensures

pub returns-clause-value : goal.returns-clause-value
returns-clause-value c =
    c.lift_form_into.ensures.value ∙ ap (λ (s : ParamSet). lift_row s c.args.keys.now.lift c.args.c.now c.args.r) c.requires.scratch

pub returns-clause-shape : goal.returns-clause-shape
returns-clause-shape c = subst (λ (s : ParamSet). HasShape c.args.ring.now (s.n + 1) c.lift_form_into.new.out) c.requires.scratch c.lift_form_into.ensures.shape
