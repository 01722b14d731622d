use Rattle.std.proofs.Common.{◌≡◌, map}
use Rattle.std.specs.List.{range_with_len}
use Rattle.spiral_model.specs.Queries.{column_message}
use Rattle.regev_code.specs.Shapes.{under}
use Rattle.gsw_code.proofs.messages.column_messages.Given as goal

abbrev pub invariant-loop-i : goal.invariant-loop-i
invariant-loop-i l = l.messages.items ≡ map (column_message l.ring (under l.ring l.secret l.set.pack) l.power l.r) (range_with_len 1 l.i)
