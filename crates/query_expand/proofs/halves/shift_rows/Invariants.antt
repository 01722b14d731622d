use Rattle.negacyclic.specs.Ring.{ring_shift}
use Rattle.spiral_sets.specs.Sets.{q}
use Rattle.spiral_model.specs.Words.{row_of}
use Rattle.negacyclic.proofs.Filled.{Filled}
use Rattle.query_expand.proofs.halves.shift_rows.Given as goal

abbrev pub invariant-loop-i : goal.invariant-loop-i
invariant-loop-i l = Filled (λ k. ring_shift q l.ring l.e (row_of l.from k)) l.initial.to l.i l.to
