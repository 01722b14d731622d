use Rattle.std.proofs.Common.{◌≡◌, ◌++◌, take}
use Rattle.std.specs.List.{flat_map}
use Rattle.spiral_frames.specs.Frames.{packed}
use Rattle.pir_wire.proofs.reply.push_mask.Given as goal

abbrev pub invariant-loop-column : goal.invariant-loop-column
invariant-loop-column l = l.out.items ≡ l.fn.out.items ++ flat_map (packed l.reply.set l.reply.set.q2_bits) (take l.column l.reply.mask)
