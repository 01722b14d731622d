use Rattle.std.proofs.Common.{IsTrue}
use Rattle.link_tests.proofs.connections.pass_bytes.Given as goal

abbrev pub invariant-bytes : goal.invariant-bytes
invariant-bytes g l = IsTrue (g.L.Link.seen l.from).is_open × IsTrue (g.L.Link.seen l.to).is_open
