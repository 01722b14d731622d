use Rattle.std.proofs.Common.{◌+◌, ◌/◌, ◌%◌, ◌<◌, length, refl, arith}
use Rattle.spiral_sets.proofs.SetBounds.{n-some}
use Rattle.pir_server.proofs.Replies.{entry_put}
use Rattle.pir_server.proofs.answering.put_entry.Goals as goal

pub returns : goal.returns
returns c =
    let s = c.args.set.now in
    let some : 0 < s.n = omega (arith, n-some s c.requires.known) in
    let within : c.args.e % s.n < length c.args.columns.now = omega (arith, c.requires.enough) in
    entry_put s c.args.columns.now c.args.reply.now c.put.new.self c.args.e (c.args.e / s.n + 1) (c.args.e % s.n + 1)
    c.index-columns-column.result c.row.result.now c.requires.set some refl refl within c.index-columns-column.is c.row.ensures c.put.ensures
