use Rattle.std.proofs.Common.{ℕ, Result, Ok, Err, refl, ap, sym, subst, ◌∙◌, arith, length-take}
use Rattle.pir_server.specs.declared.session.EndCause.{EndCause}
use Rattle.pir_server.specs.declared.session.SessionEnd.{SessionEnd}
use Rattle.pir_server.specs.declared.session.talk.Talk.{Talk}
use Rattle.pir_server.specs.Sessions.{SessionEnds}
use Rattle.pir_server.proofs.Turning.{turns_same, standing_begun, standing_on, standing_within, session_stopped, session_limited}
use Rattle.pir_server.proofs.server.Server.session.Goals as goal

pub pieces-init : goal.pieces-init
pieces-init g c = (
  standing_begun c.args.self.now.table (g.L.Link.seen c.args.link.now) c.in-Ok.begun.0 c.requires.open c.requires.fresh c.in-Ok.ensures.0,
  refl,
  c.in-Ok.ensures.1,
  omega (arith, ap (λ (t : Talk). t.taken) c.in-Ok.ensures.0),
)

pub returns-in-Err-turn-clause-ends : goal.returns-in-Err-turn-clause-ends
returns-in-Err-turn-clause-ends g c =
    let table = c.args.self.now.table in
    let base = g.L.Link.seen c.args.link.now in
    let now = g.L.Link.seen c.pieces.link in
    let new = g.L.Link.seen c.turn.new.link in
    let result : Result (Unit {0}) EndCause = Err c.in-Err-turn.cause in
    let turn = turns_same c.pieces.self c.args.self.now now new c.pieces.talk c.turn.new.talk _ result c.pieces.invariant.1 c.in-Err-turn.ensures.turns in
    subst (λ (end : SessionEnd). SessionEnds table c.args.limit base new end) (sym c.end.ensures)
    (session_stopped table base now c.pieces.talk c.pieces.invariant.0 new c.turn.new.talk _ c.args.limit c.in-Err-turn.cause turn
    (omega (arith, length-take {A = ℕ}, c.min-room.ensures)))

pub pieces-preserved : goal.pieces-preserved
pieces-preserved g c =
    let table = c.args.self.now.table in
    let base = g.L.Link.seen c.args.link.now in
    let now = g.L.Link.seen c.pieces.link in
    let new = g.L.Link.seen c.turn.new.link in
    let result : Result (Unit {0}) EndCause = Ok c.in_default.field-0 in
    let turn = turns_same c.pieces.self c.args.self.now now new c.pieces.talk c.turn.new.talk _ result c.pieces.invariant.1 c.in_default.ensures.turns in (
      standing_on table base now c.pieces.talk c.pieces.invariant.0 new c.turn.new.talk _ c.in_default.field-0 turn,
      c.in_default.ensures.server ∙ c.pieces.invariant.1,
      c.pieces.invariant.2,
      standing_within table base now c.pieces.talk c.pieces.invariant.0 new c.turn.new.talk _ c.in_default.field-0 c.args.limit turn
          (omega (arith, length-take {A = ℕ}, c.min-room.ensures)),
    )

pub returns-clause-ends : goal.returns-clause-ends
returns-clause-ends g c =
    let base = g.L.Link.seen c.args.link.now in
    let now = g.L.Link.seen c.pieces.link in
    subst (λ (end : SessionEnd). SessionEnds c.args.self.now.table c.args.limit base now end) (sym c.end-2.ensures)
    (session_limited c.args.self.now.table base now c.pieces.talk c.pieces.invariant.0 c.args.limit c.pieces.invariant.3 c.pieces-test.false)
