use Rattle.tool_fetch.proofs.SentFrames.{first_failed, second_failed, then_ended}
use Rattle.tool_fetch.proofs.exchange.sending.write_both.Goals as goal

pub returns-in-Err : goal.returns-in-Err
returns-in-Err g c =
    first_failed (g.L.Link.seen c.args.link.now) (g.L.Link.seen c.write_some.new.link) c.args.setup.now c.args.query.now c.in-Err.fault c.in-Err.ensures

pub returns-in-Err-write : goal.returns-in-Err-write
returns-in-Err-write g c =
    second_failed (g.L.Link.seen c.args.link.now) (g.L.Link.seen c.write_some.new.link) c.args.setup.now c.args.query.now c.in_default.ensures (g.L.Link.seen c.write.new.self)
    c.in-Err-write.fault c.in-Err-write.ensures

pub returns : goal.returns
returns g c =
    then_ended (g.L.Link.seen c.args.link.now) (g.L.Link.seen c.write_some.new.link) c.args.setup.now c.args.query.now c.in_default.ensures (g.L.Link.seen c.write.new.self)
    c.in_default-write.ensures (g.L.Link.seen c.end.new.self) c.end.result c.end.ensures
