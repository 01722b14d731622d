use Rattle.std.proofs.Common.{◌≡◌, true, false, Option, sym, ap, ◌∙◌, refl}
use Rattle.std.proofs.lemmas.Result.{err_from_is_err_and}
use Rattle.spiral_sets.specs.declared.param_set.ParamSet.{ParamSet}
use Rattle.spiral_model.specs.Keys.{SetKeys}
use Rattle.frame_streams.specs.Serving.{lacks_keys, reply_frame}
use Rattle.pir_server.proofs.Writing.{sends_same}
use Rattle.pir_server.proofs.MessagesServed.{refuses_same, serves_keyless, serves_query, serves_failed}
use Rattle.pir_server.proofs.session.serving.serve_query.Goals as goal

pub returns-then-keys_wanting-clause-serves : goal.returns-then-keys_wanting-clause-serves
returns-then-keys_wanting-clause-serves g c =
    let table = c.args.server.now.table in
    let old = g.L.Link.seen c.args.link.now in
    let new = g.L.Link.seen c.refuse.new.link in
    let lacks : lacks_keys table.set c.args.talk.now.keys ≡ true =
    ap (λ (s : ParamSet). lacks_keys s c.args.talk.now.keys) (sym c.context.ensures.set) ∙ sym c.keys_wanting.ensures ∙ c.if-keys_wanting.true in
    serves_keyless table c.args.talk.now.decoder.last c.args.query.now old new c.args.talk.now c.refuse.result c.requires.set lacks
    (refuses_same table c.context.result.1 12 c.start.result c.args.talk.now.decoder.last old new c.refuse.result c.context.ensures.set c.start.ensures
    c.refuse.ensures)

pub returns-in_err-reply_to-clause-serves : goal.returns-in_err-reply_to-clause-serves
returns-in_err-reply_to-clause-serves g c =
    let table = c.args.server.now.table in
    let old = g.L.Link.seen c.args.link.now in
    let new = g.L.Link.seen c.reply_to.new.link in
    let has : lacks_keys table.set c.args.talk.now.keys ≡ false =
    ap (λ (s : ParamSet). lacks_keys s c.args.talk.now.keys) (sym c.context.ensures.set) ∙ sym c.keys_wanting.ensures ∙ c.if-keys_wanting.false in
    let frame = ap (λ (k : Option SetKeys). reply_frame table k c.args.query.now) c.as_ref.ensures.value in
    let p = err_from_is_err_and c.from_residual.result c.from_residual.ensures.1 in
    rw (p.1, p.2)
    (serves_failed table c.args.talk.now.decoder.last c.args.query.now old new c.args.talk.now c.args.talk.now c.in_err-reply_to.field-0.0 c.requires.set has
    refl (sends_same old new table.set _ _ _ frame c.in_err-reply_to.ensures.sends))

pub returns-clause-serves : goal.returns-clause-serves
returns-clause-serves g c =
    let table = c.args.server.now.table in
    let old = g.L.Link.seen c.args.link.now in
    let new = g.L.Link.seen c.reply_to.new.link in
    let has : lacks_keys table.set c.args.talk.now.keys ≡ false =
    ap (λ (s : ParamSet). lacks_keys s c.args.talk.now.keys) (sym c.context.ensures.set) ∙ sym c.keys_wanting.ensures ∙ c.if-keys_wanting.false in
    let frame = ap (λ (k : Option SetKeys). reply_frame table k c.args.query.now) c.as_ref.ensures.value in
    serves_query table c.args.talk.now.decoder.last c.args.query.now old new c.args.talk.now _ c.requires.set has c.requires.fit refl
    (sends_same old new table.set _ _ _ frame c.in_ok-reply_to.ensures.sends)
