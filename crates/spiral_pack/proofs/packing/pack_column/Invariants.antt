use Rattle.spiral_pack.proofs.Packings.{Sums}
use Rattle.spiral_pack.proofs.packing.pack_column.Given as goal

abbrev pub invariant-loop-r : goal.invariant-loop-r
invariant-loop-r l = Sums l.ring l.fn.scratch l.keys.lift l.ciphers l.c l.r l.out l.lifted l.scratch
