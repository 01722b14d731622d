use Rattle.std.proofs.Common.{◌≡◌, ◌++◌, take}
use Rattle.std.specs.List.{flat_map}
use Rattle.spiral_sets.specs.Sets.{q1_bits}
use Rattle.spiral_frames.specs.Frames.{packed}
use Rattle.pir_wire.proofs.reply.push_body.Given as goal

abbrev pub invariant-loop-e : goal.invariant-loop-e
invariant-loop-e l = l.out.items ≡ l.fn.out.items ++ flat_map (packed l.reply.set (q1_bits l.reply.set)) (take l.e l.reply.body)
