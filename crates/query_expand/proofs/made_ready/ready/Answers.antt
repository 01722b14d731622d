use Rattle.std.proofs.Common.{List, [], ◌∙◌, ap, arith}
use Rattle.std.specs.Option.{option_copied}
use Rattle.std.proofs.lemmas.List.{get_or_read}
use Rattle.spiral_model.specs.Bodies.{CipherBody}
use Rattle.spiral_model.specs.Words.{Cipher, cipher_at}
use Rattle.query_expand.proofs.Cuts.{query-one, ready-sent, ready-expanded}
use Rattle.query_expand.proofs.made_ready.ready.Goals as goal

pub returns-in_ok-ready_sent-clause-value : goal.returns-in_ok-ready_sent-clause-value
returns-in_ok-ready_sent-clause-value c =
    ready-sent c.args.set.now _ c.deref.result.now c.args.query.now.ciphers _ c.if-set.true
    (c.deref.ensures.value ∙ ap (λ (q : CipherBody). q.ciphers) c.query.view_is)
    c.in_ok-ready_sent.ensures.value

pub returns-in_ok-ready_expanded-in-Some-clause-value : goal.returns-in_ok-ready_expanded-in-Some-clause-value
returns-in_ok-ready_expanded-in-Some-clause-value c =
    let sent = ap (λ (q : CipherBody). q.ciphers) c.query.view_is in
    let count = query-one c.args.set.now c.args.query.now c.query.inside.ciphers.items c.requires.set c.if-set.false c.requires.query sent in
    ready-expanded c.args.set.now c.in-Some.keys.now _ c.args.query.now.ciphers c.index-c.result.now _ c.if-set.false (ap option_copied c.in-Some.is)
    (get_or_read c.query.inside.ciphers.items 0 c.index-c.result.now (omega (arith, count)) c.index-c.ensures []
    ∙ ap (λ (cs : List Cipher). cipher_at cs 0) sent)
    c.in_ok-ready_expanded-in-Some.ensures.value
