use Rattle.std.specs.List.{range_with_len, flat_map}
use Rattle.spiral_model.specs.Queries.{first_columns}
use Rattle.gsw_code.specs.Columns.{ColumnsDrawn}
use Rattle.pir_client.proofs.query.draw_first.Given as goal

abbrev pub invariant-loop-u : goal.invariant-loop-u
invariant-loop-u l =
    ColumnsDrawn l.set l.secret (λ _. flat_map (first_columns l.set l.index) (range_with_len 0 l.u)) l.fn.draw l.draw l.fn.ciphers.items l.ciphers.items
