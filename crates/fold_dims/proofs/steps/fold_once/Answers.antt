use Rattle.std.proofs.Common.{◌+◌}
use Rattle.std.proofs.lemmas.List.Elements.{All-append, All-drop, All-same}
use Rattle.spiral_model.specs.Sets.{rows}
use Rattle.regev_code.specs.Products.{HasShape}
use Rattle.fold_dims.proofs.Folds.{step_is}
use Rattle.fold_dims.proofs.steps.fold_once.Goals as goal

pub returns-clause-value : goal.returns-clause-value
returns-clause-value c =
    step_is c.args.ring.now c.args.scratch.now.w_gsw c.args.half c.args.gsw.now c.args.ciphers.now c.split_at_mut-low.result.0.now c.split_at_mut-low.result.1.now
    c.fold_half.new.low c.requires.within c.split_at_mut-low.ensures.front c.split_at_mut-low.ensures.back c.fold_half.ensures.value

pub returns-clause-shapes : goal.returns-clause-shapes
returns-clause-shapes c =
    let shape = HasShape c.args.ring.now (rows c.args.scratch.now + 1) in
    All-append shape c.fold_half.new.low c.split_at_mut-low.result.1.now c.fold_half.ensures.shapes
    (All-same shape c.split_at_mut-low.result.1.now _ c.split_at_mut-low.ensures.back (All-drop shape c.args.half c.args.ciphers.now c.requires.shapes))
