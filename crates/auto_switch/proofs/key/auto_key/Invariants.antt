use Rattle.std.proofs.Common.{true, [], map}
use Rattle.std.specs.List.{range_with_len}
use Rattle.spiral_model.specs.Words.{poly_of}
use Rattle.spiral_model.specs.Dealing.{auto_message}
use Rattle.regev_code.specs.Shapes.{under}
use Rattle.regev_code.specs.Drawn.{Drawn}
use Rattle.auto_switch.proofs.key.auto_key.Given as goal

abbrev pub invariant-loop-k : goal.invariant-loop-k
invariant-loop-k l =
    Drawn l.ring 1 (under l.ring l.secret true) (map (auto_message l.ring l.g l.w (poly_of (under l.ring l.secret true) 0)) (range_with_len 0 l.k)) l.draw l.ahead [] l.ciphers.items
