use Rattle.std.proofs.Common.{ap, arith, subst}
use Rattle.spiral_sets.specs.declared.param_set.ParamSet.{ParamSet}
use Rattle.regev_code.specs.KeyShapes.{IsKeyOf}
use Rattle.spiral_pack.proofs.Lifts.{lifted_is}
use Rattle.spiral_pack.proofs.lift.lift_form_into.Goals as goal

pub lift_key-key-requires-clause-last : goal.lift_key-key-requires-clause-last
lift_key-key-requires-clause-last c = let rows = ap (λ (s : ParamSet). s.n) c.requires.set in omega (arith, c.requires.last, rows)

pub lift_form-requires-clause-key : goal.lift_form-requires-clause-key
lift_form-requires-clause-key c = subst (λ (s : ParamSet). IsKeyOf s s.n c.lift_key-key.result.now) c.requires.set c.lift_key-key.ensures.key

pub returns-clause-value : goal.returns-clause-value
returns-clause-value c =
    lifted_is c.args.scratch.now c.args.ring.now c.args.r c.args.keys.now.lift c.lift_key-key.result.now c.args.c.now c.lift_form.new.out c.requires.ring c.lift_key-key.ensures.value
    c.lift_form.ensures.value
