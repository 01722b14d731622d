use Rattle.std.proofs.Common.{ap}
use Rattle.pir_io.specs.declared.connection.Connection.{Connection}
use Rattle.pir_io.proofs.WrittenParts.{part_written, none_written}
use Rattle.pir_io.proofs.connection.Connection.write_whole.Goals as goal
use Rattle.pir_io.proofs.connection.Connection.write_whole.Goals.{in-Ok, in-Err}

pub turns-preserved : goal.turns-preserved
turns-preserved g c =
    let others = ap (λ (old : Connection _). record old { stream = c.write.new.self }) c.turns.invariant.1 in
    elim c.match-write.branch [
      | in-Ok w ↦ rw w.rest-is (part_written _ _ _ _ _ _ c.turns.invariant.0 w.in-Ok.ensures.bytes, others)
      | in-Err w ↦ rw w.rest-is (none_written _ _ _ _ _ c.turns.invariant.0 w.in-Err.ensures.bytes, others)
    ]
