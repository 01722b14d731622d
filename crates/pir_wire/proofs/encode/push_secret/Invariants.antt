use Rattle.std.proofs.Common.{◌≡◌, ◌++◌, map, take}
use Rattle.spiral_frames.specs.Frames.{secret_byte}
use Rattle.pir_wire.proofs.encode.push_secret.Given as goal

abbrev pub invariant-loop-number : goal.invariant-loop-number
invariant-loop-number l = l.out.items ≡ l.fn.out.items ++ map secret_byte (take l.number-index l.secret)
