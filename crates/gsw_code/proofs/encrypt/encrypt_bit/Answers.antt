use Rattle.std.proofs.Common.{[], arith, if◌then◌else◌}
use Rattle.spiral_model.specs.Queries.{gsw_columns}
use Rattle.gsw_code.specs.Columns.{ColumnsDrawn}
use Rattle.gsw_code.proofs.Columns.{rows-none, rows-more, rows-all, row-room, all_taken}
use Rattle.gsw_code.proofs.encrypt.encrypt_bit.Goals as goal

pub loop-r-init : goal.loop-r-init
loop-r-init c =
    rows-none c.args.set.now c.args.secret.now (if c.args.bit then 1 else 0) c.args.draw.now c.again-ahead.result c.new-columns.result.items c.again-ahead.ensures c.new-columns.ensures.items

pub draw_row-requires-clause-enough : goal.draw_row-requires-clause-enough
draw_row-requires-clause-enough c =
    row-room c.args.set.now c.args.secret.now (if c.args.bit then 1 else 0) c.loop-r.r c.args.draw.now c.loop-r.ahead [] c.loop-r.columns.items (omega arith) c.loop-r.invariant c.requires.enough

pub loop-r-preserved : goal.loop-r-preserved
loop-r-preserved c =
    rows-more c.args.set.now c.args.secret.now (if c.args.bit then 1 else 0) c.loop-r.r c.args.draw.now c.loop-r.ahead c.draw_row.new.draw [] c.loop-r.columns.items
    c.draw_row.new.columns.items c.loop-r.invariant c.in_ok-draw_row.ensures

drawn : (c : goal.After-take_over) → ColumnsDrawn c.args.set.now c.args.secret.now (λ s. gsw_columns c.args.set.now s (if c.args.bit then 1 else 0)) c.args.draw.now c.take_over.new.self [] c.loop-r.columns.items
drawn c =
    rows-all c.args.set.now c.args.secret.now (if c.args.bit then 1 else 0) c.loop-r.r c.args.draw.now c.loop-r.ahead c.take_over.new.self c.loop-r.columns.items
    (omega arith) c.take_over.ensures c.loop-r.invariant

pub returns-clause-ok : goal.returns-clause-ok
returns-clause-ok c = drawn c

pub returns-clause-taken : goal.returns-clause-taken
returns-clause-taken c =
    all_taken c.args.set.now c.args.secret.now (if c.args.bit then 1 else 0) c.args.draw.now c.take_over.new.self [] c.loop-r.columns.items (drawn c)
