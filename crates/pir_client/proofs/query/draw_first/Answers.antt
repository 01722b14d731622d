use Rattle.std.proofs.Common.{◌≡◌, ℕ, refl, subst, arith}
use Rattle.std.specs.List.{range_with_len, flat_map}
use Rattle.spiral_sets.specs.Sets.{places, rows}
use Rattle.spiral_sets.specs.Counts.{firsts_count}
use Rattle.spiral_model.specs.Ciphertexts.{words_taken}
use Rattle.spiral_model.specs.Queries.{first_columns}
use Rattle.regev_code.proofs.Draws.{done_is}
use Rattle.gsw_code.specs.Columns.{row_secrets_of, ColumnsDrawn}
use Rattle.pir_client.proofs.MessageLists.{columns-lists}
use Rattle.pir_client.proofs.QueryDraws.{pieces_drawn-none, pieces_drawn-more, pieces_drawn-room}
use Rattle.pir_client.proofs.query.draw_first.Goals as goal

pub loop-u-init : goal.loop-u-init
loop-u-init c =
    pieces_drawn-none c.args.set.now.degree (rows c.args.set.now) (row_secrets_of c.args.set.now c.args.secret.now)
    (first_columns c.args.set.now c.args.index) c.args.draw.now
    c.args.ciphers.now.items

pub draw_place-requires-clause-enough : goal.draw_place-requires-clause-enough
draw_place-requires-clause-enough c =
    let set = c.args.set.now in
    let whole = done_is (firsts_count set) (places set) (rows set) (words_taken set.degree (rows set)) refl in
    pieces_drawn-room set.degree (rows set) (rows set) c.loop-u.u (places set) (row_secrets_of set c.args.secret.now) (first_columns set c.args.index)
    c.args.draw.now c.loop-u.draw
    c.args.ciphers.now.items c.loop-u.ciphers.items (omega arith) (columns-lists set c.args.index) c.loop-u.invariant (omega (arith, whole, c.requires.enough))

pub loop-u-preserved : goal.loop-u-preserved
loop-u-preserved c =
    let set = c.args.set.now in
    pieces_drawn-more set.degree (rows set) (rows set) c.loop-u.u (row_secrets_of set c.args.secret.now) (first_columns set c.args.index) c.args.draw.now
    c.loop-u.draw
    c.draw_place.new.draw c.args.ciphers.now.items c.loop-u.ciphers.items c.draw_place.new.ciphers.items (columns-lists set c.args.index) c.loop-u.invariant
    c.in_ok-draw_place.ensures

pub returns : goal.returns
returns c =
    let last : c.loop-u.u ≡ places c.args.set.now = omega arith in
    subst (λ (n : ℕ). ColumnsDrawn c.args.set.now c.args.secret.now (λ _. flat_map (first_columns c.args.set.now c.args.index) (range_with_len 0 n))
    c.args.draw.now c.loop-u.draw c.args.ciphers.now.items c.loop-u.ciphers.items)
    last c.loop-u.invariant
