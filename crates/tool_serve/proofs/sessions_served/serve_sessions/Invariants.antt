use Rattle.std.proofs.Common.{◌≡◌, ◌-◌, ◌≤◌}
use Rattle.tool_serve.proofs.ServingLoop.{SoFar}
use Rattle.tool_serve.proofs.sessions_served.serve_sessions.Given as goal

abbrev pub invariant-sessions : goal.invariant-sessions
invariant-sessions g l =
    SoFar l.fn.server.table (g.N.Link.seen l.fn.net) (g.N.Link.seen l.net) (g.O.Sink.seen l.fn.sink) (g.O.Sink.seen l.sink) l.served l.first
    × (l.server ≡ l.fn.server) × (l.served ≤ l.sessions)

abbrev pub decreases-sessions : goal.decreases-sessions
decreases-sessions g l = l.sessions - l.served
