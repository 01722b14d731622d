use Rattle.std.proofs.Common.{◌≡◌, length}
use Rattle.pir_server.proofs.Onward.{ServingLoop}
use Rattle.pir_server.proofs.session.serving.serve_ready.Given as goal

abbrev pub invariant-messages : goal.invariant-messages
invariant-messages g l =
    ServingLoop l.fn.server.table (g.L.Link.seen l.fn.link) (g.L.Link.seen l.link) l.fn.talk l.talk × (l.server ≡ l.fn.server)

abbrev pub decreases-messages : goal.decreases-messages
decreases-messages g l = length l.talk.decoder.ready
