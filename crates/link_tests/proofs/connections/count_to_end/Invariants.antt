use Rattle.std.proofs.Common.{IsTrue}
use Rattle.link_tests.proofs.connections.count_to_end.Given as goal

abbrev pub invariant-pieces : goal.invariant-pieces
invariant-pieces g l = IsTrue (g.L.Link.seen l.link).is_open
