use Rattle.std.proofs.Common.{Result, Ok, Err, refl, ◌∙◌, arith}
use Rattle.pir_io.specs.declared.fault.IoFault.{IoFault}
use Rattle.pir_io.specs.declared.fault.IoFault.TheVariants.{Failed, NoMemory}
use Rattle.pir_server.specs.declared.session.SessionEnd.{SessionEnd}
use Rattle.tool_serve.proofs.ServingLoop.{loop_begun, next_same, loop_on, loop_unstarted, loop_wanting, loop_unput, loop_unwritten, loop_done}
use Rattle.tool_serve.proofs.sessions_served.serve_sessions.Goals as goal

pub sessions-init : goal.sessions-init
sessions-init g c = (loop_begun c.args.server.now.table (g.N.Link.seen c.args.net.now) (g.O.Sink.seen c.args.sink.now), refl, omega arith)

pub returns-in-Err-Failed : goal.returns-in-Err-Failed
returns-in-Err-Failed g c =
    let i = c.sessions.invariant in
    let result : Result SessionEnd IoFault = Err Failed in
    let next = next_same c.sessions.server c.args.server.now _ _ result i.1 (rw c.in-Err-Failed.field-0-is at c.in-Err-Failed.ensures.serves) in
    loop_unstarted _ _ _ _ _ _ _ _ i.0 c.args.sessions _ _ c.sessions-test.true next c.refuse.ensures

pub returns-in-Err-NoMemory : goal.returns-in-Err-NoMemory
returns-in-Err-NoMemory g c =
    let i = c.sessions.invariant in
    let result : Result SessionEnd IoFault = Err NoMemory in
    let next = next_same c.sessions.server c.args.server.now _ _ result i.1 (rw c.in-Err-NoMemory.field-0-is at c.in-Err-NoMemory.ensures.serves) in
    loop_wanting _ _ _ _ _ _ _ _ i.0 c.args.sessions c.sessions-test.true next

pub sessions-preserved : goal.sessions-preserved
sessions-preserved g c =
    let i = c.sessions.invariant in
    let result : Result SessionEnd IoFault = Ok c.in-Ok.end in
    let next = next_same c.sessions.server c.args.server.now _ _ result i.1 c.in-Ok.ensures.serves in (
      loop_on _ _ _ _ _ _ _ _ i.0 c.in-Ok.end _ c.status_of.result c.or-first.result c.or-first.ensures c.status_of.ensures next c.in-Ok-put_session.ensures,
      c.in-Ok.ensures.server ∙ i.1,
      omega (arith, c.sessions-test.true),
    )

pub returns-in-Err-Failed-put_session : goal.returns-in-Err-Failed-put_session
returns-in-Err-Failed-put_session g c =
    let i = c.sessions.invariant in
    let result : Result SessionEnd IoFault = Ok c.in-Ok.end in
    let next = next_same c.sessions.server c.args.server.now _ _ result i.1 c.in-Ok.ensures.serves in
    loop_unput _ _ _ _ _ _ _ _ i.0 c.args.sessions c.in-Ok.end _ c.sessions-test.true next
    (rw c.in-Err-Failed-put_session.field-0-is at c.in-Err-Failed-put_session.ensures)

pub returns-in-Err-NoMemory-put_session : goal.returns-in-Err-NoMemory-put_session
returns-in-Err-NoMemory-put_session g c =
    let i = c.sessions.invariant in
    let result : Result SessionEnd IoFault = Ok c.in-Ok.end in
    let next = next_same c.sessions.server c.args.server.now _ _ result i.1 c.in-Ok.ensures.serves in
    loop_unwritten _ _ _ _ _ _ _ _ i.0 c.args.sessions c.in-Ok.end _ c.sessions-test.true next
    (rw c.in-Err-NoMemory-put_session.field-0-is at c.in-Err-NoMemory-put_session.ensures)

pub returns : goal.returns
returns g c =
    let i = c.sessions.invariant in
    let now = g.N.Link.seen c.sessions.net in
    loop_done _ _ now now _ _ _ _ i.0 c.args.sessions _ _ (omega (arith, c.sessions-test.false, i.2)) c.end_with.ensures
