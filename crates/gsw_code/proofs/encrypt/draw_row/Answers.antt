use Rattle.std.proofs.Common.{arith, if◌then◌else◌}
use Rattle.spiral_sets.specs.Sets.{digit_count}
use Rattle.gsw_code.proofs.Columns.{columns-none, columns-more, columns-all, column-room}
use Rattle.gsw_code.proofs.encrypt.draw_row.Goals as goal

pub loop-k-init : goal.loop-k-init
loop-k-init c = columns-none c.args.set.now c.args.secret.now (if c.args.bit then 1 else 0) c.args.r c.args.draw.now c.args.columns.now.items

pub draw_column-requires-clause-enough : goal.draw_column-requires-clause-enough
draw_column-requires-clause-enough c =
    column-room c.args.set.now c.args.secret.now (if c.args.bit then 1 else 0) c.args.r c.loop-k.k (digit_count c.args.set.now.w_gsw) c.args.draw.now c.loop-k.draw
    c.args.columns.now.items c.loop-k.columns.items (omega arith) c.loop-k.invariant c.requires.enough

pub loop-k-preserved : goal.loop-k-preserved
loop-k-preserved c =
    columns-more c.args.set.now c.args.secret.now (if c.args.bit then 1 else 0) c.args.r c.loop-k.k c.args.draw.now c.loop-k.draw c.draw_column.new.draw
    c.args.columns.now.items c.loop-k.columns.items c.draw_column.new.columns.items c.loop-k.invariant c.in_ok-draw_column.ensures

pub returns : goal.returns
returns c =
    columns-all c.args.set.now c.args.secret.now (if c.args.bit then 1 else 0) c.args.r c.loop-k.k c.args.draw.now c.loop-k.draw
    c.args.columns.now.items c.loop-k.columns.items (omega arith) c.loop-k.invariant
