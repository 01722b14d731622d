use Rattle.std.proofs.Common.{◌≡◌, length}
use Rattle.regev_code.specs.Shapes.{rows_from}
use Rattle.regev_code.proofs.secret.rows_from_words.Given as goal

abbrev pub invariant-loop-r : goal.invariant-loop-r
invariant-loop-r l = l.rows.items ≡ rows_from (length l.fn.scratch) l.r l.words l.start
