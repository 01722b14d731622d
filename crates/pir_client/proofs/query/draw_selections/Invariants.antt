use Rattle.std.specs.List.{range_with_len, flat_map}
use Rattle.spiral_model.specs.Queries.{selection_columns}
use Rattle.gsw_code.specs.Columns.{ColumnsDrawn}
use Rattle.pir_client.proofs.query.draw_selections.Given as goal

abbrev pub invariant-loop-l : goal.invariant-loop-l
invariant-loop-l l =
    ColumnsDrawn l.set l.secret (λ s. flat_map (selection_columns l.set s l.index) (range_with_len 0 l.l)) l.fn.draw l.draw l.fn.ciphers.items l.ciphers.items
