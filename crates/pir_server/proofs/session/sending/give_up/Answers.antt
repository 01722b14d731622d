use Rattle.std.proofs.Common.{◌∙◌}
use Rattle.pir_server.proofs.Writing.{gave_up}
use Rattle.pir_server.proofs.session.sending.give_up.Goals as goal

pub returns-in-Ok : goal.returns-in-Ok
returns-in-Ok g c =
    gave_up (g.L.Link.seen c.args.link.now) (g.L.Link.seen c.write-tried.new.self) c.args.set.now c.deref.result.now c.write-tried.result c.write-tried.ensures
    (c.deref.ensures.value ∙ c.in-Ok.ensures.spelled)
