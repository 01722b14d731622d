use Rattle.std.proofs.Common.{arith}
use Rattle.regev_code.specs.Shapes.{under}
use Rattle.key_deal.proofs.Conversions.{scaled-none, scaled-more, scaled-room, scaled-all}
use Rattle.key_deal.proofs.conversion.draw_digits.Goals as goal

pub loop-k-init : goal.loop-k-init
loop-k-init c =
    scaled-none c.args.ring.now c.args.w c.args.polys.now (under c.args.ring.now c.args.secret.now c.args.scalar) c.args.draw.now c.args.ciphers.now.items

pub draw_digit-requires-clause-enough : goal.draw_digit-requires-clause-enough
draw_digit-requires-clause-enough c =
    scaled-room c.args.ring.now c.args.w c.loop-k.k c.args.polys.now (under c.args.ring.now c.args.secret.now c.args.scalar) c.args.draw.now c.loop-k.draw
    c.args.ciphers.now.items c.loop-k.ciphers.items (omega arith) c.loop-k.invariant c.requires.enough

pub loop-k-preserved : goal.loop-k-preserved
loop-k-preserved c =
    scaled-more c.args.ring.now c.args.w c.loop-k.k c.args.polys.now (under c.args.ring.now c.args.secret.now c.args.scalar) c.args.draw.now c.loop-k.draw c.draw_digit.new.draw
    c.args.ciphers.now.items c.loop-k.ciphers.items c.draw_digit.new.ciphers.items c.loop-k.invariant c.in_ok-draw_digit.ensures

pub returns : goal.returns
returns c =
    scaled-all c.args.ring.now c.args.w c.loop-k.k c.args.polys.now (under c.args.ring.now c.args.secret.now c.args.scalar) c.args.draw.now c.loop-k.draw
    c.args.ciphers.now.items c.loop-k.ciphers.items (omega arith) c.loop-k.invariant
