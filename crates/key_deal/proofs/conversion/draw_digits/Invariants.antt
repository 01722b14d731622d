use Rattle.std.proofs.Common.{length, map}
use Rattle.std.specs.List.{range_with_len}
use Rattle.regev_code.specs.Shapes.{under}
use Rattle.regev_code.specs.Drawn.{Drawn}
use Rattle.key_deal.proofs.Conversions.{scaled_by}
use Rattle.key_deal.proofs.conversion.draw_digits.Given as goal

abbrev pub invariant-loop-k : goal.invariant-loop-k
invariant-loop-k l =
    Drawn l.ring (length l.polys) (under l.ring l.secret l.scalar) (map (scaled_by l.ring l.w l.polys) (range_with_len 0 l.k)) l.fn.draw l.draw l.fn.ciphers.items l.ciphers.items
