use Rattle.std.proofs.Common.{false, arith}
use Rattle.regev_code.specs.Shapes.{under}
use Rattle.key_deal.specs.DealtKeys.{scalar_of}
use Rattle.key_deal.proofs.LiftMessages.{lifts-none, lifts-more, lifts-room, lifts-all}
use Rattle.key_deal.proofs.lifts.draw_lifts.Goals as goal

pub loop-i-init : goal.loop-i-init
loop-i-init c =
    let set = c.args.set.now in
    lifts-none set (under set.degree c.args.secret.now false) (scalar_of set.degree c.args.secret.now) c.args.draw.now c.args.ciphers.now.items

pub draw_lift-requires-clause-enough : goal.draw_lift-requires-clause-enough
draw_lift-requires-clause-enough c =
    let set = c.args.set.now in
    lifts-room set (under set.degree c.args.secret.now false) (scalar_of set.degree c.args.secret.now) c.loop-i.i c.args.draw.now c.loop-i.draw c.args.ciphers.now.items
    c.loop-i.ciphers.items c.requires.keys (omega arith) c.loop-i.invariant c.requires.enough

pub loop-i-preserved : goal.loop-i-preserved
loop-i-preserved c =
    let set = c.args.set.now in
    lifts-more set (under set.degree c.args.secret.now false) (scalar_of set.degree c.args.secret.now) c.loop-i.i c.args.draw.now c.loop-i.draw c.draw_lift.new.draw
    c.args.ciphers.now.items c.loop-i.ciphers.items c.draw_lift.new.ciphers.items c.loop-i.invariant c.in_ok-draw_lift.ensures

pub returns : goal.returns
returns c =
    let set = c.args.set.now in
    lifts-all set (under set.degree c.args.secret.now false) (scalar_of set.degree c.args.secret.now) c.loop-i.i c.args.draw.now c.loop-i.draw c.args.ciphers.now.items
    c.loop-i.ciphers.items c.requires.keys (omega arith) c.loop-i.invariant
