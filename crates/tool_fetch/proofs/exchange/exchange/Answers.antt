use Rattle.std.proofs.Common.{◌++◌}
use Rattle.tool_fetch.proofs.SendThenReceive.{exchanged}
use Rattle.tool_fetch.proofs.exchange.exchange.Goals as goal

pub returns-in-Ok-clause-does : goal.returns-in-Ok-clause-does
returns-in-Ok-clause-does g c =
    exchanged (g.N.Link.seen c.args.net.now) (g.N.Link.seen c.send.new.net) (g.N.Link.seen c.receive.new.link) c.args.addr.now (c.args.setup.now ++ c.args.query.now) c.in-Ok.ensures
    c.receive.result c.receive.ensures.does
