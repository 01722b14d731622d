use Rattle.std.proofs.Common.{◌≡◌, ◌++◌, take}
use Rattle.spiral_frames.specs.Frames.{rows_bytes}
use Rattle.pir_wire.proofs.residues.push_cipher.Given as goal

abbrev pub invariant-loop-r : goal.invariant-loop-r
invariant-loop-r l = l.out.items ≡ l.fn.out.items ++ rows_bytes (take l.r l.cipher)
