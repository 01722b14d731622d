use Rattle.std.proofs.Common.{◌≡◌, replicate}
use Rattle.regev_code.proofs.product_form.zero_forms.Given as goal

abbrev pub invariant-loop : goal.invariant-loop
invariant-loop l = l.polys.items ≡ replicate l.counter (replicate l.degree 0)
