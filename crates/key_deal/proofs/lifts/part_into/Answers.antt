use Rattle.std.proofs.Common.{length, ne_eqb, ◌∙◌}
use Rattle.key_deal.proofs.LiftMessages.{part-zero}
use Rattle.key_deal.proofs.lifts.part_into.Goals as goal

pub returns-else-i-r : goal.returns-else-i-r
returns-else-i-r c =
    part-zero c.args.set.now (length c.args.out.now) c.args.s.now c.clear.new.self c.args.r c.args.k c.args.i (c.requires.room ∙ c.requires.ring)
    (ne_eqb c.args.i c.args.r c.if-i-r.false) c.clear.ensures
