use Rattle.std.proofs.Common.{◌≡◌, map}
use Rattle.std.specs.List.{range_with_len}
use Rattle.key_deal.proofs.LiftMessages.{part_of}
use Rattle.key_deal.proofs.lifts.messages.Given as goal

abbrev pub invariant-loop-i : goal.invariant-loop-i
invariant-loop-i l = l.messages.items ≡ map (part_of l.set l.s l.r l.k) (range_with_len 1 l.i)
