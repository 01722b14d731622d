use Rattle.std.proofs.Common.{◌≡◌}
use Rattle.std.specs.Io.KnownBytes.{Keeps}
use Rattle.pir_io.proofs.connection.Connection.read_once.Given as goal

abbrev pub invariant-turns : goal.invariant-turns
invariant-turns g l = Keeps (g.S.Read.remaining l.fn.self.stream) (g.S.Read.remaining l.self.stream) × (l.self ≡ record l.fn.self { stream = l.self.stream })
