use Rattle.std.proofs.Common.{length, replicate}
use Rattle.spiral_model.specs.Words.{row_of}
use Rattle.negacyclic.proofs.Filled.{Filled}
use Rattle.regev_code.proofs.product_form.clear_rows.Given as goal

abbrev pub invariant-loop-i : goal.invariant-loop-i
invariant-loop-i l = Filled (λ k. replicate (length (row_of l.initial.rows k)) 0) l.initial.rows l.i l.rows
