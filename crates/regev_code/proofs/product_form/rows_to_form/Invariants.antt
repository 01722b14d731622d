use Rattle.std.proofs.Common.{get_or, []}
use Rattle.negacyclic.proofs.Filled.{Filled}
use Rattle.regev_code.proofs.product_form.rows_to_form.Given as goal

abbrev pub invariant-loop-i : goal.invariant-loop-i
invariant-loop-i l = Filled (λ k. get_or l.from k []) l.initial.to l.i l.to
