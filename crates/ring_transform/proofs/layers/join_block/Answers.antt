use Rattle.std.proofs.Common.{ℕ, ◌+◌, ◌-◌, ◌*◌, ◌%◌, ◌^◌, ◌<◌, ◌≤◌, refl, arith}
use Rattle.ring_transform.proofs.Filling.{join_block_done, put-all}
use Rattle.ring_transform.proofs.Sizes.{entry_is}
use Rattle.ring_transform.proofs.layers.join_block.Goals as goal

pub returns-clause-remainders : goal.returns-clause-remainders
returns-clause-remainders g c =
    let d = c.args.depth in
    let start = c.args.i * (2 * c.args.half) in
    let deep : d ≤ 9 = omega arith in
    join_block_done g.row.P d c.args.i c.args.half (start + 2 * c.args.half - start) (1 * 2 ^ d % 2 ^ 64 + c.args.i) c.args.inverses.now c.args.a.now _ c.joined_halves.new.block c.requires.prime c.requires.deep c.requires.place c.requires.room (entry_is d c.args.i deep)
    c.requires.size (omega arith) (omega (arith, c.joined_halves.auto.block)) refl c.requires.table c.joined_halves.ensures.low c.joined_halves.ensures.high

pub returns-clause-residues : goal.returns-clause-residues
returns-clause-residues g c =
    let start = c.args.i * (2 * c.args.half) in
    put-all (λ (x : ℕ). x < g.row.P) start (start + 2 * c.args.half - start) c.args.a.now c.joined_halves.new.block c.requires.residues c.joined_halves.ensures.residues
