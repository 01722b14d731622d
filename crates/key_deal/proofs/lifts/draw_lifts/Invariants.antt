use Rattle.std.proofs.Common.{false}
use Rattle.std.specs.List.{range_with_len, flat_map}
use Rattle.spiral_model.specs.Dealing.{lift_row_messages}
use Rattle.regev_code.specs.Shapes.{under}
use Rattle.regev_code.specs.Drawn.{Drawn}
use Rattle.key_deal.specs.DealtKeys.{scalar_of}
use Rattle.key_deal.proofs.lifts.draw_lifts.Given as goal

abbrev pub invariant-loop-i : goal.invariant-loop-i
invariant-loop-i l =
    Drawn l.set.degree l.set.n (under l.set.degree l.secret false) (flat_map (lift_row_messages l.set (scalar_of l.set.degree l.secret)) (range_with_len 1 l.i)) l.fn.draw
    l.draw l.fn.ciphers.items l.ciphers.items
