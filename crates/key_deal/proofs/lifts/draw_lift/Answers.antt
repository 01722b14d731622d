use Rattle.std.proofs.Common.{false, arith}
use Rattle.regev_code.specs.Shapes.{under}
use Rattle.key_deal.specs.DealtKeys.{scalar_of}
use Rattle.key_deal.proofs.LiftMessages.{digits-none, digits-more, digits-room, digits-all}
use Rattle.key_deal.proofs.lifts.draw_lift.Goals as goal

pub loop-k-init : goal.loop-k-init
loop-k-init c =
    let set = c.args.set.now in
    digits-none set (under set.degree c.args.secret.now false) (scalar_of set.degree c.args.secret.now) c.args.r c.args.draw.now c.args.ciphers.now.items

pub draw_digit-requires-clause-enough : goal.draw_digit-requires-clause-enough
draw_digit-requires-clause-enough c =
    let set = c.args.set.now in
    digits-room set (under set.degree c.args.secret.now false) (scalar_of set.degree c.args.secret.now) c.args.r c.loop-k.k c.args.draw.now c.loop-k.draw
    c.args.ciphers.now.items c.loop-k.ciphers.items (omega arith) c.loop-k.invariant c.requires.enough

pub loop-k-preserved : goal.loop-k-preserved
loop-k-preserved c =
    let set = c.args.set.now in
    digits-more set (under set.degree c.args.secret.now false) (scalar_of set.degree c.args.secret.now) c.args.r c.loop-k.k c.args.draw.now c.loop-k.draw c.draw_digit.new.draw
    c.args.ciphers.now.items c.loop-k.ciphers.items c.draw_digit.new.ciphers.items c.loop-k.invariant c.in_ok-draw_digit.ensures

pub returns : goal.returns
returns c =
    let set = c.args.set.now in
    digits-all set (under set.degree c.args.secret.now false) (scalar_of set.degree c.args.secret.now) c.args.r c.loop-k.k c.args.draw.now c.loop-k.draw
    c.args.ciphers.now.items c.loop-k.ciphers.items (omega arith) c.loop-k.invariant
