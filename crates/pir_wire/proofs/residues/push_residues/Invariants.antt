use Rattle.std.proofs.Common.{◌≡◌, ◌++◌, take}
use Rattle.spiral_frames.specs.Frames.{poly_bytes}
use Rattle.pir_wire.proofs.residues.push_residues.Given as goal

abbrev pub invariant-loop-residue : goal.invariant-loop-residue
invariant-loop-residue l = l.out.items ≡ l.fn.out.items ++ poly_bytes (take l.residue-index l.residues)
