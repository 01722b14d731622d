use Rattle.std.proofs.Common.{map}
use Rattle.std.specs.List.{range_with_len}
use Rattle.spiral_model.specs.Queries.{first_messages}
use Rattle.gsw_code.specs.Columns.{ColumnsDrawn}
use Rattle.pir_client.proofs.query.draw_place.Given as goal

abbrev pub invariant-loop-r : goal.invariant-loop-r
invariant-loop-r l =
    ColumnsDrawn l.set l.secret (λ _. map (first_messages l.set l.index l.u) (range_with_len 1 l.r)) l.fn.draw l.draw l.fn.ciphers.items l.ciphers.items
