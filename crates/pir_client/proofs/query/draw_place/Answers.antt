use Rattle.std.proofs.Common.{◌+◌, arith}
use Rattle.spiral_sets.specs.Sets.{rows}
use Rattle.spiral_model.specs.Queries.{first_messages}
use Rattle.gsw_code.specs.Columns.{row_secrets_of}
use Rattle.pir_client.proofs.MessageLists.{length-first_messages}
use Rattle.pir_client.proofs.QueryDraws.{row_drawn-none, row_drawn-more, row_drawn-room, place_drawn}
use Rattle.pir_client.proofs.query.draw_place.Goals as goal

pub loop-r-init : goal.loop-r-init
loop-r-init c =
    row_drawn-none c.args.set.now.degree (rows c.args.set.now) 1 (row_secrets_of c.args.set.now c.args.secret.now)
    (first_messages c.args.set.now c.args.index c.args.u) c.args.draw.now
    c.args.ciphers.now.items

pub draw_column-requires-clause-enough : goal.draw_column-requires-clause-enough
draw_column-requires-clause-enough c =
    let set = c.args.set.now in
    row_drawn-room set.degree (rows set) 1 c.loop-r.r (rows set) (row_secrets_of set c.args.secret.now) (first_messages set c.args.index c.args.u)
    c.args.draw.now c.loop-r.draw
    c.args.ciphers.now.items c.loop-r.ciphers.items (omega arith) (length-first_messages set c.args.index c.args.u) c.loop-r.invariant c.requires.enough

pub loop-r-preserved : goal.loop-r-preserved
loop-r-preserved c =
    let set = c.args.set.now in
    row_drawn-more set.degree (rows set) 1 c.loop-r.r (c.loop-r.r + 1) (row_secrets_of set c.args.secret.now) (first_messages set c.args.index c.args.u)
    c.args.draw.now c.loop-r.draw
    c.draw_column.new.draw c.args.ciphers.now.items c.loop-r.ciphers.items c.draw_column.new.ciphers.items (omega arith)
    (length-first_messages set c.args.index c.args.u)
    c.loop-r.invariant c.in_ok-draw_column.ensures

pub returns : goal.returns
returns c =
    place_drawn c.args.set.now c.args.secret.now c.args.index c.args.u c.loop-r.r c.args.draw.now c.loop-r.draw c.args.ciphers.now.items
    c.loop-r.ciphers.items (omega arith)
    c.loop-r.invariant
