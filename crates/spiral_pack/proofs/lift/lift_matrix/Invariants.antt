use Rattle.spiral_pack.proofs.Lifts.{Lifts}
use Rattle.spiral_pack.proofs.lift.lift_matrix.Given as goal

abbrev pub invariant-loop-i : goal.invariant-loop-i
invariant-loop-i l = Lifts l.ring l.fn.scratch l.keys l.c l.i l.columns.items l.scratch
