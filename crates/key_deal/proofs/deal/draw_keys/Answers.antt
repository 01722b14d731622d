use Rattle.std.proofs.Common.{◌≡◌, ℕ, true, false, length, ap, sym, ◌∙◌}
use Rattle.regev_code.specs.Shapes.{under}
use Rattle.key_deal.specs.DealtKeys.{scalar_of}
use Rattle.key_deal.proofs.WholeKeys.{KeysDrawn, keys-drawn, row-count, rounds-room, lifts-room, conversion-room}
use Rattle.key_deal.proofs.deal.draw_keys.Goals as goal

pub draw_rounds-requires-clause-enough : goal.draw_rounds-requires-clause-enough
draw_rounds-requires-clause-enough c = rounds-room c.args.set.now c.args.draw.now c.requires.enough

pub draw_lifts-requires-clause-enough : goal.draw_lifts-requires-clause-enough
draw_lifts-requires-clause-enough c =
    let set = c.args.set.now in
    lifts-room set (scalar_of set.degree c.args.secret.now) (under set.degree c.args.secret.now true) c.args.draw.now c.draw_rounds.new.draw c.new-ciphers.result.items
    c.draw_rounds.new.ciphers.items c.in_ok-draw_rounds.ensures c.requires.enough

pub draw_conversion-requires-clause-rows : goal.draw_conversion-requires-clause-rows
draw_conversion-requires-clause-rows c = row-count c.args.set.now c.args.ring.now c.args.secret.now c.requires.scalar c.requires.rows

pub draw_conversion-requires-clause-enough : goal.draw_conversion-requires-clause-enough
draw_conversion-requires-clause-enough c =
    let set = c.args.set.now in
    conversion-room set (scalar_of set.degree c.args.secret.now) (under set.degree c.args.secret.now true) (under set.degree c.args.secret.now false) c.args.draw.now
    c.draw_rounds.new.draw c.draw_lifts.new.draw c.new-ciphers.result.items c.draw_rounds.new.ciphers.items c.draw_lifts.new.ciphers.items c.in_ok-draw_rounds.ensures
    c.in_ok-draw_lifts.ensures c.requires.enough

drawn : (c : goal.After-result-1) → KeysDrawn c.args.set.now c.args.secret.now c.args.draw.now c.draw_conversion.new.draw c.draw_conversion.new.ciphers.items
drawn c =
    let set = c.args.set.now in
    let degree : c.args.ring.now ≡ set.degree = c.requires.ring in
    keys-drawn set c.args.secret.now c.args.draw.now c.draw_rounds.new.draw c.draw_lifts.new.draw c.draw_conversion.new.draw c.new-ciphers.result.items
    c.draw_rounds.new.ciphers.items c.draw_lifts.new.ciphers.items c.draw_conversion.new.ciphers.items c.requires.known c.new-ciphers.ensures.items
    (ap (λ (N : ℕ). length (under N c.args.secret.now true)) (sym degree) ∙ c.requires.scalar)
    (ap (λ (N : ℕ). length (under N c.args.secret.now false)) (sym degree) ∙ c.requires.rows) c.in_ok-draw_rounds.ensures c.in_ok-draw_lifts.ensures
    c.in_ok-draw_conversion.ensures

pub returns-clause-shape : goal.returns-clause-shape
returns-clause-shape c = (drawn c).shape

pub returns-clause-taken : goal.returns-clause-taken
returns-clause-taken c = (drawn c).words

pub returns-clause-ciphers : goal.returns-clause-ciphers
returns-clause-ciphers c = (drawn c).are
