use Rattle.regev_code.specs.Shapes.{under}
use Rattle.key_deal.specs.DealtKeys.{scalar_of}
use Rattle.key_deal.proofs.Conversions.{conversion-absent}
use Rattle.key_deal.proofs.conversion.draw_conversion.Goals as goal

pub returns-then-set : goal.returns-then-set
returns-then-set c =
    let set = c.args.set.now in
    conversion-absent set (scalar_of set.degree c.args.secret.now) (under set.degree c.args.secret.now set.pack) c.args.draw.now c.args.ciphers.now.items c.if-set.true
