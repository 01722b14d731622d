use Rattle.std.proofs.Common.{◌≡◌}
use Rattle.pir_io.proofs.connection.Connection.write_whole.Given as goal
use Rattle.pir_io.proofs.WrittenParts.{HasWritten}

abbrev pub invariant-turns : goal.invariant-turns
invariant-turns g l = HasWritten (g.S.Write.contents l.fn.self.stream) (g.S.Write.contents l.self.stream) l.initial.rest l.rest × (l.self ≡ record l.fn.self { stream = l.self.stream })
