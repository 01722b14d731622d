use Rattle.std.proofs.Common.{◌≡◌, ap}
use Rattle.spiral_model.specs.Bodies.{CipherBody}
use Rattle.spiral_model.specs.Keys.{keys_in}
use Rattle.regev_code.proofs.KeyCuts.{set_keys, set_keys_are, set_keys_kept}
use Rattle.regev_code.proofs.keys.EvalKeys.from_body.Goals as goal

value : (c : goal.In_ok-conversion)
    → set_keys c.body.inside.set c.in_ok-round0_keys.field-0.items c.in_ok-left_keys.field-0.items c.in_ok-right_keys.field-0.items
    c.in_ok-lift_keys.field-0.items c.in_ok-conversion.field-0
    ≡ keys_in c.args.body.now
value c =
    set_keys_are c.args.body.now c.body.inside.set c.in_ok-round0_keys.field-0.items c.in_ok-left_keys.field-0.items c.in_ok-right_keys.field-0.items
    c.in_ok-lift_keys.field-0.items
    c.in_ok-conversion.field-0 (ap (λ (b : CipherBody). b.set) c.body.view_is) c.in_ok-round0_keys.ensures c.in_ok-left_keys.ensures
    c.in_ok-right_keys.ensures c.in_ok-lift_keys.ensures
    c.in_ok-conversion.ensures

pub invariant_of-result : goal.invariant_of-result
invariant_of-result c = set_keys_kept c.args.body.now _ c.requires.keys c.requires.body (value c)

pub returns : goal.returns
returns c = value c
