use Rattle.std.proofs.Common.{◌≡◌, arith}
use Rattle.spiral_pack.proofs.Packings.{same_n, columns_more, columns_all, columns_many}
use Rattle.spiral_pack.proofs.packing.pack.Goals as goal

pub loop-c-preserved : goal.loop-c-preserved
loop-c-preserved c =
    columns_more c.args.ring.now c.args.scratch.now c.args.keys.now.lift c.args.ciphers.now c.loop-c.c c.loop-c.columns.items
    c.push.new.self.items c.loop-c.lifted c.pack_column.new.lifted c.pack_column.new.out c.loop-c.scratch c.pack_column.new.scratch
    c.loop-c.invariant c.pack_column.ensures.value c.pack_column.ensures.shape c.pack_column.ensures.lifted c.pack_column.ensures.scratch
    c.in_ok-push.ensures.items

pub returns-clause-value : goal.returns-clause-value
returns-clause-value c =
    let rows : c.keys.inside.set.n ≡ c.args.scratch.now.n = same_n c.keys.view_is c.requires.set in
    columns_all c.args.scratch.now c.args.keys.now.lift c.args.ciphers.now c.loop-c.columns.items c.loop-c.c (omega (arith, rows))
    c.loop-c.invariant.so_far

pub returns-clause-many : goal.returns-clause-many
returns-clause-many c =
    let rows : c.keys.inside.set.n ≡ c.args.scratch.now.n = same_n c.keys.view_is c.requires.set in
    columns_many c.args.scratch.now c.args.keys.now.lift c.args.ciphers.now c.loop-c.columns.items c.loop-c.c (omega (arith, rows))
    c.loop-c.invariant.so_far
