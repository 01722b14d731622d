use Rattle.std.proofs.Common.{take, All}
use Rattle.noise_check.specs.Reports.{RowFits}
use Rattle.noise_check.proofs.sides.first_miss.Given as goal

abbrev pub invariant-loop-place : goal.invariant-loop-place
invariant-loop-place l = All RowFits (take l.place l.report.rows.items)
