use Rattle.std.proofs.Common.{◌≡◌, take}
use Rattle.regev_code.proofs.product_form.row_forms.Given as goal

abbrev pub invariant-loop-row : goal.invariant-loop-row
invariant-loop-row l = l.forms.items ≡ take l.row-index l.rows
