use Rattle.std.proofs.Common.{◌≡◌, ◌∙◌, ap, refl}
use Rattle.spiral_model.specs.KeySwitching.{DigitKey, key_switched}
use Rattle.regev_code.proofs.Switching.{switched, switched-shape}
use Rattle.regev_code.proofs.form_switch.switch_form.Goals as goal

value : (c : goal.After-add_to_form_row) → c.add_to_form_row.new.cipher ≡ key_switched c.args.ring.now c.args.m c.args.r c.args.key.now c.args.b.now c.args.a.now
value c =
    switched c.args.ring.now c.args.m c.args.r _ c.args.key.now c.deref.result.now c.args.b.now c.args.a.now c.args.out.now c.clear.new.self
    c.add_digit_sum.new.sum c.add_digit_sum.new.sum
    c.add_to_form_row.new.cipher c.requires.row c.requires.out (ap (λ (k : DigitKey). k.w) c.key.view_is)
    (c.deref.ensures.value ∙ ap (λ (k : DigitKey). k.ciphers) c.key.view_is) c.clear.ensures
    c.add_digit_sum.ensures.value refl c.requires.b c.add_to_form_row.ensures

pub returns-clause-value : goal.returns-clause-value
returns-clause-value c = value c

pub returns-clause-shape : goal.returns-clause-shape
returns-clause-shape c = switched-shape c.args.ring.now c.args.m c.args.r c.args.key.now c.args.b.now c.args.a.now c.add_to_form_row.new.cipher (value c)
