use Rattle.std.proofs.Common.{refl}
use Rattle.pir_server.proofs.MessagesServed.{serves_setup}
use Rattle.pir_server.proofs.session.serving.serve_setup.Goals as goal

pub returns-in-Ok : goal.returns-in-Ok
returns-in-Ok g c =
    serves_setup c.args.server.now.table c.args.talk.now.decoder.last c.args.setup.now (g.L.Link.seen c.args.link.now) c.args.talk.now _ c.requires.open
    c.requires.set c.in-Ok.ensures refl
