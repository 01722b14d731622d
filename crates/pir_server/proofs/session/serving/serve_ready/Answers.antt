use Rattle.std.proofs.Common.{◌≡◌, Bool, true, false, Result, Ok, Err, sym, subst, ◌∙◌}
use Rattle.std.proofs.lemmas.Result.{err_from_is_err_and}
use Rattle.pir_server.specs.declared.session.EndCause.{EndCause}
use Rattle.pir_server.specs.Served.{Served}
use Rattle.pir_server.specs.Talks.{IsTalk}
use Rattle.pir_server.proofs.Onward.{next_same, loop_talk, loop_on, loop_ends, loop_stops}
use Rattle.pir_server.proofs.session.serving.serve_ready.Goals as goal

pub serve_next-requires-clause-talk : goal.serve_next-requires-clause-talk
serve_next-requires-clause-talk g c κs within =
    subst (λ (s : Served). IsTalk s.table c.messages.talk) (sym c.messages.invariant.1)
    (loop_talk c.args.server.now.table (g.L.Link.seen c.args.link.now) c.args.talk.now (g.L.Link.seen c.messages.link) (g.L.Link.seen c.messages.link)
    c.messages.talk c.messages.talk c.messages.invariant.0 c.requires.talk)

pub returns-in_err-serve_next-clause-serves : goal.returns-in_err-serve_next-clause-serves
returns-in_err-serve_next-clause-serves g c =
    let p = err_from_is_err_and c.from_residual.result c.from_residual.ensures.1 in
    let result : Result Bool EndCause = Err c.in_err-serve_next.field-0.0 in
    let next =
    next_same c.messages.server c.args.server.now (g.L.Link.seen c.messages.link) (g.L.Link.seen c.serve_next.new.link) c.messages.talk c.serve_next.new.talk result
    c.messages.invariant.1 c.in_err-serve_next.ensures.serves in
    rw (p.1, p.2)
    (loop_stops c.args.server.now.table (g.L.Link.seen c.args.link.now) c.args.talk.now (g.L.Link.seen c.messages.link) (g.L.Link.seen c.serve_next.new.link)
    c.messages.talk c.serve_next.new.talk c.messages.invariant.0 c.in_err-serve_next.field-0.0 next)

pub returns-then-not-branch-clause-serves : goal.returns-then-not-branch-clause-serves
returns-then-not-branch-clause-serves g c =
    let result : Result Bool EndCause = Ok c.in_ok-serve_next.field-0 in
    let next =
    next_same c.messages.server c.args.server.now (g.L.Link.seen c.messages.link) (g.L.Link.seen c.serve_next.new.link) c.messages.talk c.serve_next.new.talk result
    c.messages.invariant.1 c.in_ok-serve_next.ensures.serves in
    let none : c.in_ok-serve_next.field-0 ≡ false = c.if-not-branch.true in
    loop_ends c.args.server.now.table (g.L.Link.seen c.args.link.now) c.args.talk.now (g.L.Link.seen c.messages.link) (g.L.Link.seen c.serve_next.new.link)
    c.messages.talk c.serve_next.new.talk c.messages.invariant.0 (rw none at next)

pub messages-preserved : goal.messages-preserved
messages-preserved g c =
    let result : Result Bool EndCause = Ok c.in_ok-serve_next.field-0 in
    let next =
    next_same c.messages.server c.args.server.now (g.L.Link.seen c.messages.link) (g.L.Link.seen c.serve_next.new.link) c.messages.talk c.serve_next.new.talk result
    c.messages.invariant.1 c.in_ok-serve_next.ensures.serves in
    let some : c.in_ok-serve_next.field-0 ≡ true = c.if-not-branch.false in (
      loop_on c.args.server.now.table (g.L.Link.seen c.args.link.now) c.args.talk.now (g.L.Link.seen c.messages.link) (g.L.Link.seen c.serve_next.new.link)
          c.messages.talk c.serve_next.new.talk c.messages.invariant.0 (rw some at next),
      c.in_ok-serve_next.ensures.server ∙ c.messages.invariant.1,
    )
