use Rattle.std.proofs.Common.{length}
use Rattle.negacyclic.specs.Ring.{ring_add}
use Rattle.spiral_sets.specs.Sets.{q}
use Rattle.spiral_model.specs.Words.{row_of}
use Rattle.negacyclic.proofs.Filled.{Filled}
use Rattle.regev_code.proofs.cipher.add_rows.Given as goal

abbrev pub invariant-loop-i : goal.invariant-loop-i
invariant-loop-i l = Filled (λ k. ring_add q (length (row_of l.initial.sum 0)) (row_of l.initial.sum k) (row_of l.rows k)) l.initial.sum l.i l.sum
