use Rattle.std.proofs.Common.{◌≡◌, ◌-◌, ◌≤◌, vec_len}
use Rattle.pir_server.specs.Talks.{Standing}
use Rattle.pir_server.proofs.server.Server.session.Given as goal

abbrev pub invariant-pieces : goal.invariant-pieces
invariant-pieces g l =
    Standing l.fn.self.table (g.L.Link.seen l.fn.link) (g.L.Link.seen l.link) l.talk × (l.self ≡ l.fn.self) × (vec_len l.buffer ≡ 65536)
    × (l.talk.taken ≤ l.limit)

abbrev pub decreases-pieces : goal.decreases-pieces
decreases-pieces g l = l.limit - l.talk.taken
