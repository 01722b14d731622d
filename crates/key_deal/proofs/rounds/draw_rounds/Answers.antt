use Rattle.std.proofs.Common.{true}
use Rattle.regev_code.specs.Shapes.{under}
use Rattle.key_deal.specs.DealtKeys.{scalar_of}
use Rattle.key_deal.proofs.RoundKeys.{rounds-absent}
use Rattle.key_deal.proofs.rounds.draw_rounds.Goals as goal

pub returns-then-set : goal.returns-then-set
returns-then-set c =
    let set = c.args.set.now in
    rounds-absent set (under set.degree c.args.secret.now true) (scalar_of set.degree c.args.secret.now) c.args.draw.now c.args.ciphers.now.items c.if-set.true
