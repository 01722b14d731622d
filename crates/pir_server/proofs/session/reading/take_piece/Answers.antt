use Rattle.std.proofs.Common.{length}
use Rattle.pir_server.proofs.PiecesTaken.{took_fault, took_none}
use Rattle.pir_server.proofs.session.reading.take_piece.Goals as goal

pub returns-in-Err-Failed : goal.returns-in-Err-Failed
returns-in-Err-Failed g c =
    took_fault c.args.set.now (g.L.Link.seen c.args.link.now) (g.L.Link.seen c.read.new.self) c.args.piece.now c.read.new.into c.args.talk.now
    (length c.args.piece.now) (rw c.in-Err-Failed.field-0-is at c.in-Err-Failed.ensures)

pub returns-in-Err-NoMemory : goal.returns-in-Err-NoMemory
returns-in-Err-NoMemory g c =
    took_none c.args.set.now (g.L.Link.seen c.args.link.now) (g.L.Link.seen c.read.new.self) c.args.piece.now c.read.new.into c.args.talk.now
    (length c.args.piece.now) (g.L.Link.seen c.give_up-in-Err-NoMemory.new.link) c.give_up-in-Err-NoMemory.result
    (rw c.in-Err-NoMemory.field-0-is at c.in-Err-NoMemory.ensures) c.give_up-in-Err-NoMemory.ensures
