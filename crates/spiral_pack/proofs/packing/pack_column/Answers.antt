use Rattle.std.proofs.Common.{◌≡◌, arith}
use Rattle.spiral_pack.proofs.Packings.{same_n, entry_shape, sums_none, sums_more, sums_all}
use Rattle.spiral_pack.proofs.packing.pack_column.Goals as goal

pub loop-r-init : goal.loop-r-init
loop-r-init c =
    sums_none c.args.ring.now c.args.scratch.now c.args.keys.now.lift c.args.ciphers.now c.args.c c.args.out.now c.args.lifted.now
    c.requires.ring c.requires.zeros c.requires.lifted

pub lift_into-requires-clause-c : goal.lift_into-requires-clause-c
lift_into-requires-clause-c c =
    let rows : c.keys.inside.set.n ≡ c.args.scratch.now.n = same_n c.keys.view_is c.requires.set in
    entry_shape c.args.ring.now c.args.scratch.now.n c.keys.inside.set.n c.loop-r.r c.args.c c.args.ciphers.now c.entry.result.now rows
    c.requires.count c.loop-r-test.true c.requires.column c.requires.ciphers c.entry.ensures

pub loop-r-preserved : goal.loop-r-preserved
loop-r-preserved c =
    let rows : c.keys.inside.set.n ≡ c.args.scratch.now.n = same_n c.keys.view_is c.requires.set in
    sums_more c.args.ring.now c.args.scratch.now c.args.keys.now.lift c.args.ciphers.now c.args.c c.loop-r.r c.keys.inside.set.n
    c.entry.result.now c.loop-r.out c.loop-r.lifted c.lift_into.new.out c.add_assign.new.self c.loop-r.scratch c.lift_into.new.scratch rows
    c.loop-r.invariant c.entry.ensures c.lift_into.ensures.value c.lift_into.ensures.shape c.lift_into.ensures.scratch c.add_assign.ensures

pub returns-clause-value : goal.returns-clause-value
returns-clause-value c =
    let rows : c.keys.inside.set.n ≡ c.args.scratch.now.n = same_n c.keys.view_is c.requires.set in
    sums_all c.args.ring.now c.args.scratch.now c.args.keys.now.lift c.args.ciphers.now c.args.c c.loop-r.r c.loop-r.out
    c.requires.ring (omega (arith, rows)) c.loop-r.invariant.so_far
