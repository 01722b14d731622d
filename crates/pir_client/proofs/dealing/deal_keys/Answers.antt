use Rattle.std.proofs.Common.{sym, ◌∙◌}
use Rattle.pir_client.proofs.DealtParts.{scalar-one, rows-count, keys-drawn, keys-none, place-behind, place-same}
use Rattle.pir_client.proofs.dealing.deal_keys.Goals as goal

pub draw_keys-requires-clause-scalar : goal.draw_keys-requires-clause-scalar
draw_keys-requires-clause-scalar c =
    scalar-one c.args.set.now c.args.ring.now c.args.draw.now.words c.args.secret.now c.requires.ring (sym c.has_keys.ensures ∙ c.if-has_keys.true)
    c.requires.secret

pub draw_keys-requires-clause-rows : goal.draw_keys-requires-clause-rows
draw_keys-requires-clause-rows c = rows-count c.args.set.now c.args.ring.now c.args.draw.now.words 0 c.args.secret.now c.requires.secret

pub returns-in_ok-draw_keys-clause-keys : goal.returns-in_ok-draw_keys-clause-keys
returns-in_ok-draw_keys-clause-keys c =
    keys-drawn c.args.set.now c.args.secret.now c.args.draw.now c.in_ok-draw_keys.field-0 (sym c.has_keys.ensures ∙ c.if-has_keys.true) c.requires.secret
    c.requires.place
    c.in_ok-draw_keys.ensures.set c.in_ok-draw_keys.ensures.ciphers

pub returns-in_ok-draw_keys-clause-place : goal.returns-in_ok-draw_keys-clause-place
returns-in_ok-draw_keys-clause-place c = place-behind c.args.set.now c.args.draw.now c.draw_keys.new.draw c.requires.place c.in_ok-draw_keys.ensures.taken

pub returns-else-has_keys-clause-keys : goal.returns-else-has_keys-clause-keys
returns-else-has_keys-clause-keys c = keys-none c.args.set.now c.args.draw.now.words (sym c.has_keys.ensures ∙ c.if-has_keys.false)

pub returns-else-has_keys-clause-place : goal.returns-else-has_keys-clause-place
returns-else-has_keys-clause-place c = place-same c.args.set.now c.args.draw.now (sym c.has_keys.ensures ∙ c.if-has_keys.false) c.requires.place
