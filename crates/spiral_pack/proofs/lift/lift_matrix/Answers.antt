use Rattle.std.proofs.Common.{◌≡◌, ◌∙◌, ap, arith}
use Rattle.spiral_sets.specs.declared.param_set.ParamSet.{ParamSet}
use Rattle.spiral_model.specs.Keys.{SetKeys}
use Rattle.spiral_pack.proofs.Lifts.{lifts_none, lift_room, lifts_more, lifts_all}
use Rattle.spiral_pack.proofs.lift.lift_matrix.Goals as goal

pub loop-i-init : goal.loop-i-init
loop-i-init c =
    lifts_none c.args.ring.now c.args.scratch.now c.args.keys.now c.args.c.now c.new-columns.result.items c.new-columns.ensures.items

pub lift_form_into-requires-clause-out : goal.lift_form_into-requires-clause-out
lift_form_into-requires-clause-out c =
    let same : c.keys.inside.set ≡ c.args.scratch.now = ap (λ (k : SetKeys). k.set) c.keys.view_is ∙ c.requires.set in
    lift_room c.args.ring.now c.args.scratch.now c.keys.inside.set c.loop-i.scratch c.in_ok-lifted.lifted c.requires.ring same c.loop-i.invariant.kept c.in_ok-lifted.ensures

pub loop-i-preserved : goal.loop-i-preserved
loop-i-preserved c =
    lifts_more c.args.ring.now c.args.scratch.now c.args.keys.now c.args.c.now c.loop-i.i c.loop-i.columns.items c.push.new.self.items c.lift_form_into.new.out
    c.loop-i.scratch c.lift_form_into.new.scratch c.loop-i.invariant c.lift_form_into.ensures.value c.lift_form_into.ensures.shape c.lift_form_into.ensures.scratch
    c.in_ok-push.ensures.items

pub returns-clause-value : goal.returns-clause-value
returns-clause-value c =
    let same : c.keys.inside.set ≡ c.args.scratch.now = ap (λ (k : SetKeys). k.set) c.keys.view_is ∙ c.requires.set in
    let rows = ap (λ (s : ParamSet). s.n) same in
    lifts_all c.args.scratch.now c.args.keys.now.lift c.args.c.now c.loop-i.i c.loop-i.columns.items (omega (arith, rows)) c.loop-i.invariant.so_far
