use Rattle.pir_client.proofs.SetNumbers.{expanding-keys}
use Rattle.pir_client.proofs.DealtParts.{scalar-one, row_secrets-count, query-sent, query-expanded}
use Rattle.pir_client.proofs.dealing.deal_query.Goals as goal

pub draw_query-requires-clause-secrets : goal.draw_query-requires-clause-secrets
draw_query-requires-clause-secrets c = row_secrets-count c.args.set.now c.args.draw.now.words 0 c.args.secret.now c.requires.secret

pub draw_one-requires-clause-scalar : goal.draw_one-requires-clause-scalar
draw_one-requires-clause-scalar c =
    scalar-one c.args.set.now c.args.ring.now c.args.draw.now.words c.args.secret.now c.requires.ring (expanding-keys c.args.set.now c.if-set.false)
    c.requires.secret

pub returns-in_ok-draw_query-clause-query : goal.returns-in_ok-draw_query-clause-query
returns-in_ok-draw_query-clause-query c =
    query-sent c.args.set.now c.args.index c.args.secret.now c.args.draw.now c.in_ok-draw_query.field-0 c.if-set.true c.requires.secret c.requires.place
    c.in_ok-draw_query.ensures.set c.in_ok-draw_query.ensures.ciphers

pub returns-in_ok-draw_one-clause-query : goal.returns-in_ok-draw_one-clause-query
returns-in_ok-draw_one-clause-query c =
    query-expanded c.args.set.now c.args.ring.now c.args.index c.args.secret.now c.args.draw.now c.in_ok-draw_one.field-0 c.requires.ring c.if-set.false
    c.requires.secret
    c.requires.place c.in_ok-draw_one.ensures.set c.in_ok-draw_one.ensures.ciphers
