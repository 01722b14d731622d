use Rattle.std.proofs.Common.{if◌then◌else◌, arith}
use Rattle.spiral_sets.specs.Sets.{rows}
use Rattle.spiral_sets.specs.Counts.{gsw_count}
use Rattle.spiral_model.specs.Queries.{selection_columns}
use Rattle.gsw_code.specs.Columns.{row_secrets_of}
use Rattle.pir_client.proofs.MessageLists.{selection-lists}
use Rattle.pir_client.proofs.QueryDraws.{pieces_drawn-none, pieces_drawn-more, pieces_drawn-room, selection_drawn}
use Rattle.pir_client.proofs.query.draw_selections.Goals as goal

pub loop-l-init : goal.loop-l-init
loop-l-init c =
    let s = row_secrets_of c.args.set.now c.args.secret.now in
    pieces_drawn-none c.args.set.now.degree (rows c.args.set.now) s (selection_columns c.args.set.now s c.args.index) c.args.draw.now c.args.ciphers.now.items

pub encrypt_bit-requires-clause-enough : goal.encrypt_bit-requires-clause-enough
encrypt_bit-requires-clause-enough c =
    let set = c.args.set.now in
    let s = row_secrets_of set c.args.secret.now in
    pieces_drawn-room set.degree (rows set) (gsw_count set) c.loop-l.l set.nu2 s (selection_columns set s c.args.index) c.args.draw.now c.loop-l.draw
    c.args.ciphers.now.items
    c.loop-l.ciphers.items (omega arith) (selection-lists set s c.args.index) c.loop-l.invariant c.requires.enough

pub loop-l-preserved : goal.loop-l-preserved
loop-l-preserved c =
    let set = c.args.set.now in
    let s = row_secrets_of set c.args.secret.now in
    let here =
    selection_drawn set c.args.secret.now c.args.index c.loop-l.l (if c.selection-bit.result then 1 else 0) c.loop-l.draw c.encrypt_bit.new.draw
    c.in_ok-columns.columns.items
    c.loop-l.ciphers.items c.append.new.self.items c.selection-bit.ensures c.in_ok-columns.ensures.ok c.in_ok-append.ensures.items in
    pieces_drawn-more set.degree (rows set) (gsw_count set) c.loop-l.l s (selection_columns set s c.args.index) c.args.draw.now c.loop-l.draw
    c.encrypt_bit.new.draw
    c.args.ciphers.now.items c.loop-l.ciphers.items c.append.new.self.items (selection-lists set s c.args.index) c.loop-l.invariant here
