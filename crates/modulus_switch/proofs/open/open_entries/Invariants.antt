use Rattle.std.proofs.Common.{◌≡◌, ◌*◌, take}
use Rattle.std.specs.List.{range_with_len, flat_map}
use Rattle.spiral_model.specs.Replies.{opened_entry}
use Rattle.modulus_switch.proofs.open.open_entries.Given as goal

abbrev pub invariant-loop-e : goal.invariant-loop-e
invariant-loop-e l = take (l.e * l.degree) l.out ≡ flat_map (opened_entry l.state l.reply) (range_with_len 0 l.e)
