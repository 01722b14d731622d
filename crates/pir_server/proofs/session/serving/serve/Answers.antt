use Rattle.std.proofs.Common.{inl, inr, ◌≡◌, ◌≢◌, sym, ap, subst, ◌∙◌}
use Rattle.spiral_sets.specs.declared.param_set.ParamSet.{ParamSet}
use Rattle.spiral_model.specs.Bodies.{IsQuery}
use Rattle.spiral_frames.specs.Frames.{Message, set_of_message}
use Rattle.pir_wire.specs.Messages.{message_seen}
use Rattle.pir_server.proofs.MessagesServed.{refuses_same, same_from_id, serves_other, serves_idle, IsIdle}
use Rattle.pir_server.proofs.session.serving.serve.Goals as goal

pub returns-then-set_id-set-clause-serves : goal.returns-then-set_id-set-clause-serves
returns-then-set_id-set-clause-serves g c =
    let table = c.args.server.now.table in
    let old = g.L.Link.seen c.args.link.now in
    let new = g.L.Link.seen c.refuse.new.link in
    let m : Message = message_seen c.args.message.now in
    let other : (set_of_message m).id ≢ table.set.id =
    λ same. c.if-set_id-set.true (c.set_id.ensures ∙ same ∙ ap (λ (s : ParamSet). s.id) (sym c.context.ensures.set)) in
    serves_other table c.args.talk.now.decoder.last m old new c.args.talk.now c.refuse.result other
    (refuses_same table c.context.result.1 11 c.start.result c.args.talk.now.decoder.last old new c.refuse.result c.context.ensures.set c.start.ensures
    c.refuse.ensures)

pub serve_query-requires-clause-set : goal.serve_query-requires-clause-set
serve_query-requires-clause-set g c κs within =
    let is : IsQuery c.in-Query.query = rw c.in-Query.is at c.requires.is in
    let id : c.in-Query.query.set.id ≡ c.context.result.1.id =
    ap (λ m. (set_of_message (message_seen m)).id) (sym c.in-Query.is) ∙ sym c.set_id.ensures ∙ c.if-set_id-set.false in
    same_from_id c.in-Query.query.set c.context.result.1 is.known c.context.ensures.known id ∙ c.context.ensures.set

pub returns-in-Reply-clause-serves : goal.returns-in-Reply-clause-serves
returns-in-Reply-clause-serves g c =
    let table = c.args.server.now.table in
    let m : Message = message_seen c.args.message.now in
    let id : (set_of_message m).id ≡ table.set.id =
    sym c.set_id.ensures ∙ c.if-set_id-set.false ∙ ap (λ (s : ParamSet). s.id) c.context.ensures.set in
    let is : IsIdle m =
    elim c.in-Reply.is as (λ _. IsIdle (message_seen c.args.message.now)) [
      | inl p ↦ subst (λ r. IsIdle (message_seen r)) (sym p.1) tt
      | inr q ↦
          elim q as (λ _. IsIdle (message_seen c.args.message.now)) [
            | inl p ↦ subst (λ r. IsIdle (message_seen r)) (sym p.3) tt
            | inr p ↦ subst (λ r. IsIdle (message_seen r)) (sym p.1) tt
          ]
    ] in
    serves_idle table c.args.talk.now.decoder.last m (g.L.Link.seen c.args.link.now) c.args.talk.now c.requires.open id is c.requires.fit

pub returns-in-Reply-2-clause-serves : goal.returns-in-Reply-2-clause-serves
returns-in-Reply-2-clause-serves g c =
    let table = c.args.server.now.table in
    let m : Message = message_seen c.args.message.now in
    let id : (set_of_message m).id ≡ table.set.id =
    sym c.set_id.ensures ∙ c.if-set_id-set.false ∙ ap (λ (s : ParamSet). s.id) c.context.ensures.set in
    let is : IsIdle m =
    elim c.in-Reply.is as (λ _. IsIdle (message_seen c.args.message.now)) [
      | inl p ↦ subst (λ r. IsIdle (message_seen r)) (sym p.1) tt
      | inr q ↦
          elim q as (λ _. IsIdle (message_seen c.args.message.now)) [
            | inl p ↦ subst (λ r. IsIdle (message_seen r)) (sym p.3) tt
            | inr p ↦ subst (λ r. IsIdle (message_seen r)) (sym p.1) tt
          ]
    ] in
    serves_idle table c.args.talk.now.decoder.last m (g.L.Link.seen c.args.link.now) c.args.talk.now c.requires.open id is c.requires.fit

pub returns-in-Reply-3-clause-serves : goal.returns-in-Reply-3-clause-serves
returns-in-Reply-3-clause-serves g c =
    let table = c.args.server.now.table in
    let m : Message = message_seen c.args.message.now in
    let id : (set_of_message m).id ≡ table.set.id =
    sym c.set_id.ensures ∙ c.if-set_id-set.false ∙ ap (λ (s : ParamSet). s.id) c.context.ensures.set in
    let is : IsIdle m =
    elim c.in-Reply.is as (λ _. IsIdle (message_seen c.args.message.now)) [
      | inl p ↦ subst (λ r. IsIdle (message_seen r)) (sym p.1) tt
      | inr q ↦
          elim q as (λ _. IsIdle (message_seen c.args.message.now)) [
            | inl p ↦ subst (λ r. IsIdle (message_seen r)) (sym p.3) tt
            | inr p ↦ subst (λ r. IsIdle (message_seen r)) (sym p.1) tt
          ]
    ] in
    serves_idle table c.args.talk.now.decoder.last m (g.L.Link.seen c.args.link.now) c.args.talk.now c.requires.open id is c.requires.fit
