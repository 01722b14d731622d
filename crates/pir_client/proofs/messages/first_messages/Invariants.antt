use Rattle.std.proofs.Common.{◌≡◌, ◌==◌, if◌then◌else◌, pos, map}
use Rattle.std.specs.List.{range_with_len}
use Rattle.spiral_sets.specs.Sets.{delta}
use Rattle.spiral_model.specs.Queries.{first_place, row_message}
use Rattle.pir_client.proofs.messages.first_messages.Given as goal

abbrev pub invariant-loop-i : goal.invariant-loop-i
invariant-loop-i l =
    l.messages.items ≡ map (row_message l.set l.r (if l.u == first_place l.set l.index then pos (delta l.set) else pos 0)) (range_with_len 1 l.i)
