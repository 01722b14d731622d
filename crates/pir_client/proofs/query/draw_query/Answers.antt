use Rattle.std.proofs.Common.{◌≡◌, ℕ, List, ◌++◌, ◌*◌, ap, ◌∙◌, arith}
use Rattle.spiral_sets.specs.Sets.{rows}
use Rattle.spiral_sets.specs.Counts.{gsw_count, query_ciphertexts, words_of}
use Rattle.spiral_model.specs.Words.{Cipher}
use Rattle.spiral_model.specs.Ciphertexts.{encrypted_all, words_taken}
use Rattle.spiral_model.specs.Queries.{query_messages}
use Rattle.regev_code.proofs.Draws.{room_behind}
use Rattle.gsw_code.specs.Columns.{row_secrets_of}
use Rattle.pir_client.proofs.SetNumbers.{query_words-are}
use Rattle.pir_client.proofs.MessageLists.{firsts-lists}
use Rattle.pir_client.proofs.QueryShapes.{query-shape, parts_drawn}
use Rattle.pir_client.proofs.query.draw_query.Goals as goal

pub draw_first-requires-clause-enough : goal.draw_first-requires-clause-enough
draw_first-requires-clause-enough c = omega (arith, query_words-are c.args.set.now c.requires.direct, c.requires.enough)

pub draw_selections-requires-clause-enough : goal.draw_selections-requires-clause-enough
draw_selections-requires-clause-enough c =
    let set = c.args.set.now in
    let T = words_taken set.degree (rows set) in
    let done = ap (λ (n : ℕ). n * T) (firsts-lists set c.args.index).many in
    room_behind c.args.draw.now c.draw_first.new.draw _ (set.nu2 * (gsw_count set * T)) (words_of set (query_ciphertexts set)) c.in_ok-draw_first.ensures.words
    (omega (arith, done, query_words-are set c.requires.direct)) c.requires.enough

drawn : (c : goal.After-result-1)
    → c.draw_selections.new.ciphers.items
    ≡ encrypted_all c.args.set.now.degree c.args.draw.now.words c.args.draw.now.used (row_secrets_of c.args.set.now c.args.secret.now)
    (query_messages c.args.set.now (row_secrets_of c.args.set.now c.args.secret.now) c.args.index)
drawn c =
    let set = c.args.set.now in
    let s = row_secrets_of set c.args.secret.now in
    let whole =
    parts_drawn set c.args.secret.now c.args.index c.args.draw.now c.draw_first.new.draw c.draw_selections.new.draw c.new-ciphers.result.items
    c.draw_first.new.ciphers.items
    c.draw_selections.new.ciphers.items c.in_ok-draw_first.ensures c.in_ok-draw_selections.ensures in
    whole.ciphers
    ∙ ap (λ (old : List Cipher). old ++ encrypted_all set.degree c.args.draw.now.words c.args.draw.now.used s (query_messages set s c.args.index))
    c.new-ciphers.ensures.items

pub returns-clause-query : goal.returns-clause-query
returns-clause-query c =
    query-shape c.args.set.now c.args.draw.now.words c.args.draw.now.used (row_secrets_of c.args.set.now c.args.secret.now) c.args.index
    c.draw_selections.new.ciphers.items
    c.requires.known c.requires.direct c.requires.secrets (drawn c)

pub returns-clause-ciphers : goal.returns-clause-ciphers
returns-clause-ciphers c = drawn c
