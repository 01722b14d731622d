use Rattle.std.proofs.Common.{◌≡◌, ◌++◌, take}
use Rattle.std.specs.List.{flat_map}
use Rattle.spiral_frames.specs.Frames.{rows_bytes}
use Rattle.pir_wire.proofs.residues.push_ciphers.Given as goal

abbrev pub invariant-loop-cipher : goal.invariant-loop-cipher
invariant-loop-cipher l = l.out.items ≡ l.fn.out.items ++ flat_map rows_bytes (take l.cipher-index l.ciphers)
