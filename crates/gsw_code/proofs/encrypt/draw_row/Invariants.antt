use Rattle.std.proofs.Common.{map, if◌then◌else◌}
use Rattle.std.specs.List.{range_with_len}
use Rattle.spiral_model.specs.Queries.{gsw_messages}
use Rattle.gsw_code.specs.Columns.{ColumnsDrawn}
use Rattle.gsw_code.proofs.encrypt.draw_row.Given as goal

abbrev pub invariant-loop-k : goal.invariant-loop-k
invariant-loop-k l =
    ColumnsDrawn l.set l.secret (λ s. map (gsw_messages l.set s (if l.bit then 1 else 0) l.r) (range_with_len 0 l.k)) l.fn.draw l.draw l.fn.columns.items l.columns.items
