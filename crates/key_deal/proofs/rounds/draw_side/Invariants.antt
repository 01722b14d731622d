use Rattle.std.proofs.Common.{true}
use Rattle.std.specs.List.{range_with_len, flat_map}
use Rattle.regev_code.specs.Shapes.{under}
use Rattle.regev_code.specs.Drawn.{Drawn}
use Rattle.key_deal.specs.DealtKeys.{scalar_of}
use Rattle.key_deal.proofs.RoundKeys.{round_of}
use Rattle.key_deal.proofs.rounds.draw_side.Given as goal

abbrev pub invariant-loop-i : goal.invariant-loop-i
invariant-loop-i l =
    Drawn l.ring 1 (under l.ring l.secret true) (flat_map (round_of l.ring l.w (scalar_of l.ring l.secret)) (range_with_len l.first l.i)) l.fn.draw l.draw l.fn.ciphers.items
    l.ciphers.items
