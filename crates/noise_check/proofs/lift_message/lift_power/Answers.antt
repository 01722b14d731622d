use Rattle.std.proofs.Common.{◌*◌, ◌<◌, arith}
use Rattle.std.proofs.lemmas.Nat.{one_shl}
use Rattle.noise_check.proofs.LiftNoises.{lift_place, lift_power-below}
use Rattle.noise_check.proofs.lift_message.lift_power.Goals as goal

pub returns-clause-value : goal.returns-clause-value
returns-clause-value c =
    let set = c.args.set.now in
    let narrow : set.w_conv * c.args.k < 64 = omega (arith, lift_place set c.args.k c.requires.known c.requires.packs c.requires.digit) in
    one_shl (set.w_conv * c.args.k) 64 narrow

pub returns-clause-below : goal.returns-clause-below
returns-clause-below c =
    let set = c.args.set.now in
    let narrow : set.w_conv * c.args.k < 64 = omega (arith, lift_place set c.args.k c.requires.known c.requires.packs c.requires.digit) in
    omega (arith, one_shl (set.w_conv * c.args.k) 64 narrow, lift_power-below set c.args.k c.requires.known c.requires.packs c.requires.digit)
