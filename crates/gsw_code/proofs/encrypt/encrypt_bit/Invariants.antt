use Rattle.std.proofs.Common.{[], if◌then◌else◌}
use Rattle.std.specs.List.{range_with_len, flat_map}
use Rattle.spiral_model.specs.Queries.{gsw_row_columns}
use Rattle.gsw_code.specs.Columns.{ColumnsDrawn}
use Rattle.gsw_code.proofs.encrypt.encrypt_bit.Given as goal

abbrev pub invariant-loop-r : goal.invariant-loop-r
invariant-loop-r l =
    ColumnsDrawn l.set l.secret (λ s. flat_map (gsw_row_columns l.set s (if l.bit then 1 else 0)) (range_with_len 0 l.r)) l.draw l.ahead [] l.columns.items
