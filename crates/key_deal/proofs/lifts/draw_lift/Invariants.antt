use Rattle.std.proofs.Common.{false, map}
use Rattle.std.specs.List.{range_with_len}
use Rattle.spiral_model.specs.Dealing.{lift_message}
use Rattle.regev_code.specs.Shapes.{under}
use Rattle.regev_code.specs.Drawn.{Drawn}
use Rattle.key_deal.specs.DealtKeys.{scalar_of}
use Rattle.key_deal.proofs.lifts.draw_lift.Given as goal

abbrev pub invariant-loop-k : goal.invariant-loop-k
invariant-loop-k l =
    Drawn l.set.degree l.set.n (under l.set.degree l.secret false) (map (lift_message l.set (scalar_of l.set.degree l.secret) l.r) (range_with_len 0 l.k)) l.fn.draw l.draw
    l.fn.ciphers.items l.ciphers.items
