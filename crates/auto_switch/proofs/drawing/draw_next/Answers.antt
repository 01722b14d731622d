use Rattle.std.proofs.Common.{length}
use Rattle.regev_code.specs.Shapes.{under}
use Rattle.regev_code.proofs.Draws.{drawn-one}
use Rattle.auto_switch.proofs.drawing.draw_next.Goals as goal

pub returns : goal.returns
returns c =
    drawn-one c.args.ring.now (length c.args.messages.now) (under c.args.ring.now c.args.secret.now c.args.scalar) c.args.messages.now c.in_ok-draw_cipher.field-0
    c.args.draw.now c.draw_cipher.new.draw c.args.ciphers.now.items c.push.new.self.items c.in_ok-draw_cipher.ensures.taken c.in_ok-draw_cipher.ensures.ok
    c.in_ok-push.ensures.items
