use Rattle.std.proofs.Common.{◌*◌, ◌<◌, arith}
use Rattle.std.proofs.lemmas.Nat.{one_shl, pow_pos}
use Rattle.auto_switch.proofs.Multiples.{digit_place, power-below}
use Rattle.auto_switch.proofs.powers.gadget_power.Goals as goal

pub returns-clause-value : goal.returns-clause-value
returns-clause-value c =
    let narrow : c.args.w * c.args.k < 64 = omega (arith, digit_place c.args.w c.args.k c.requires.some c.requires.digit) in
    one_shl (c.args.w * c.args.k) 64 narrow

pub returns-clause-some : goal.returns-clause-some
returns-clause-some c =
    let narrow : c.args.w * c.args.k < 64 = omega (arith, digit_place c.args.w c.args.k c.requires.some c.requires.digit) in
    omega (arith, one_shl (c.args.w * c.args.k) 64 narrow, pow_pos (c.args.w * c.args.k))

pub returns-clause-below : goal.returns-clause-below
returns-clause-below c =
    let narrow : c.args.w * c.args.k < 64 = omega (arith, digit_place c.args.w c.args.k c.requires.some c.requires.digit) in
    omega (arith, one_shl (c.args.w * c.args.k) 64 narrow, power-below c.args.w c.args.k c.requires.some c.requires.digit)
