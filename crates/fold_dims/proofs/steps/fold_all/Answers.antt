use Rattle.std.proofs.Common.{◌≡◌, ◌∙◌, ◌+◌, ◌*◌, ◌/◌, ◌<◌, List, [], length, take, All, refl, ap, subst, arith}
use Rattle.std.proofs.lemmas.List.{get_or_read}
use Rattle.spiral_sets.specs.declared.param_set.ParamSet.{ParamSet}
use Rattle.spiral_model.specs.Sets.{rows}
use Rattle.spiral_model.specs.Words.{Cipher}
use Rattle.spiral_model.specs.Answering.{fold_step}
use Rattle.regev_code.specs.Products.{HasShape}
use Rattle.fold_dims.proofs.Folds.{folds-more, folds-all}
use Rattle.fold_dims.proofs.steps.fold_all.Goals as goal

pub loop-gsw-preserved : goal.loop-gsw-preserved
loop-gsw-preserved c =
    let place : c.loop-gsw.gsw-index < length c.args.gsws.now = omega arith in
    let kept : c.loop-gsw.scratch ≡ c.args.scratch.now = c.loop-gsw.invariant.kept in
    let before : List Cipher = take (2 * (c.loop-gsw.size / 2)) c.loop-gsw.ciphers in
    record {
      folds = λ count whole.
          folds-more c.args.ring.now c.args.scratch.now.w_gsw count c.args.gsws.now c.args.ciphers.now c.loop-gsw.gsw-index c.loop-gsw.size (c.loop-gsw.size / 2) c.loop-gsw.ciphers
          c.fold_once.new.ciphers c.gsw-item.result place
          (get_or_read c.args.gsws.now c.loop-gsw.gsw-index c.gsw-item.result place c.gsw-item.is [])
          refl
          (c.fold_once.ensures.value ∙ ap (λ (s : ParamSet). fold_step c.args.ring.now s.w_gsw c.gsw-item.result before) kept)
          (c.loop-gsw.invariant.folds count whole);
      within = omega (arith, c.loop-gsw.invariant.within);
      shapes = subst (λ (s : ParamSet). All (HasShape c.args.ring.now (rows s + 1)) c.fold_once.new.ciphers) kept c.fold_once.ensures.shapes;
      kept = c.fold_once.ensures.scratch ∙ kept;
    }

pub returns-clause-value : goal.returns-clause-value
returns-clause-value c = λ count whole.
    folds-all c.args.ring.now c.args.scratch.now.w_gsw count c.args.gsws.now c.args.ciphers.now c.loop-gsw.gsw-index c.loop-gsw.size c.loop-gsw.ciphers (omega arith)
    (c.loop-gsw.invariant.folds count whole)
