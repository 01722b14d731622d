use Rattle.std.proofs.Common.{arith}
use Rattle.pir_server.proofs.Replies.{zeroth_put}
use Rattle.pir_server.proofs.answering.put_zeroth.Goals as goal

pub returns : goal.returns
returns c =
    zeroth_put c.args.set.now c.args.columns.now c.args.reply.now c.put.new.self c.args.c c.index-columns-c.result c.row.result.now
    c.requires.set (omega (arith, c.requires.enough, c.requires.column)) c.index-columns-c.is c.row.ensures c.put.ensures
