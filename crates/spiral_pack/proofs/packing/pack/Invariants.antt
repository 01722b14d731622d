use Rattle.spiral_pack.proofs.Packings.{Columns}
use Rattle.spiral_pack.proofs.packing.pack.Given as goal

abbrev pub invariant-loop-c : goal.invariant-loop-c
invariant-loop-c l = Columns l.ring l.fn.scratch l.keys.lift l.ciphers l.c l.columns.items l.lifted l.scratch
