use Rattle.std.proofs.Common.{ℕ, length}
use Rattle.std.proofs.lemmas.Result.{err_from_is_err_and}
use Rattle.pir_server.proofs.Turning.{waits_room, fed_talk, turn_unread, turn_ready, turn_stops, turn_refused, turn_end, takes_same, finishes_same, refused_same}
use Rattle.pir_server.proofs.session.turn.Goals as goal

pub take_piece-requires-clause-room : goal.take_piece-requires-clause-room
take_piece-requires-clause-room g c =
    waits_room c.args.server.now.table c.args.talk.now (length c.args.piece.now) c.requires.talk c.requires.waits c.requires.fits

pub returns-in_err-take_piece-clause-turns : goal.returns-in_err-take_piece-clause-turns
returns-in_err-take_piece-clause-turns g c =
    let table = c.args.server.now.table in
    let old = g.L.Link.seen c.args.link.now in
    let mid = g.L.Link.seen c.take_piece.new.link in
    let room : ℕ = length c.args.piece.now in
    let p = err_from_is_err_and c.from_residual.result c.from_residual.ensures.1 in
    rw (p.1, p.2)
    (turn_unread table old mid c.args.talk.now c.take_piece.new.talk room c.in_err-take_piece.field-0.0
    (takes_same table c.context.result.1 old mid c.args.talk.now c.take_piece.new.talk room _ c.context.ensures.set c.in_err-take_piece.ensures))

pub serve_ready-requires-clause-talk : goal.serve_ready-requires-clause-talk
serve_ready-requires-clause-talk g c κs within =
    let piece = rw c.in-Fed.is at c.in_ok-take_piece.ensures in
    fed_talk c.args.server.now.table (g.L.Link.seen c.args.link.now) (g.L.Link.seen c.take_piece.new.link) c.args.talk.now c.take_piece.new.talk
    (length c.args.piece.now) c.requires.fits piece.by.0 c.requires.talk

pub serve_ready-requires-in-Bad-clause-talk : goal.serve_ready-requires-in-Bad-clause-talk
serve_ready-requires-in-Bad-clause-talk g c κs within =
    let piece = rw c.in-Bad.is at c.in_ok-take_piece.ensures in
    fed_talk c.args.server.now.table (g.L.Link.seen c.args.link.now) (g.L.Link.seen c.take_piece.new.link) c.args.talk.now c.take_piece.new.talk
    (length c.args.piece.now) c.requires.fits piece.by.0 c.requires.talk

pub returns-in_err-serve_ready-in-Bad-clause-turns : goal.returns-in_err-serve_ready-in-Bad-clause-turns
returns-in_err-serve_ready-in-Bad-clause-turns g c =
    let piece = rw c.in-Bad.is at c.in_ok-take_piece.ensures in
    let p = err_from_is_err_and c.from_residual-in_err-serve_ready-in-Bad.result c.from_residual-in_err-serve_ready-in-Bad.ensures.1 in
    rw (p.1, p.2)
    (turn_stops c.args.server.now.table (g.L.Link.seen c.args.link.now) (g.L.Link.seen c.take_piece.new.link) c.args.talk.now c.take_piece.new.talk
    (length c.args.piece.now) c.requires.fits piece.by.0 piece.came (g.L.Link.seen c.serve_ready-in-Bad.new.link) c.serve_ready-in-Bad.new.talk
    c.in_err-serve_ready-in-Bad.ensures.serves.only c.in_err-serve_ready-in-Bad.field-0.0 c.in_err-serve_ready-in-Bad.ensures.serves)

pub returns-in-Fed-clause-turns : goal.returns-in-Fed-clause-turns
returns-in-Fed-clause-turns g c =
    let piece = rw c.in-Fed.is at c.in_ok-take_piece.ensures in
    turn_ready c.args.server.now.table (g.L.Link.seen c.args.link.now) (g.L.Link.seen c.take_piece.new.link) c.args.talk.now c.take_piece.new.talk
    (length c.args.piece.now) c.requires.fits piece.by.0 piece.came (g.L.Link.seen c.serve_ready.new.link) c.serve_ready.new.talk c.serve_ready.ensures.serves.only
    piece.by.1 piece.by.2 c.serve_ready.result c.serve_ready.ensures.serves

pub returns-in_ok-serve_ready-in-Bad-clause-turns : goal.returns-in_ok-serve_ready-in-Bad-clause-turns
returns-in_ok-serve_ready-in-Bad-clause-turns g c =
    let table = c.args.server.now.table in
    let mid = g.L.Link.seen c.serve_ready-in-Bad.new.link in
    let last = g.L.Link.seen c.refuse.new.link in
    let piece = rw c.in-Bad.is at c.in_ok-take_piece.ensures in
    let served = c.in_ok-serve_ready-in-Bad.ensures.serves in
    turn_refused table (g.L.Link.seen c.args.link.now) (g.L.Link.seen c.take_piece.new.link) c.args.talk.now c.take_piece.new.talk
    (length c.args.piece.now) c.requires.fits piece.by.0 piece.came mid c.serve_ready-in-Bad.new.talk served.only
    last c.in-Bad.error piece.by.1 served.by.0 served.by.1 c.refuse.result
    (refused_same table c.context.result.1 c.code.result c.place.result c.in-Bad.error mid last c.refuse.result c.context.ensures.set c.code.ensures
    c.place.ensures c.refuse.ensures)

pub returns-in-End-clause-turns : goal.returns-in-End-clause-turns
returns-in-End-clause-turns g c =
    let table = c.args.server.now.table in
    let old = g.L.Link.seen c.args.link.now in
    let mid = g.L.Link.seen c.take_piece.new.link in
    let room : ℕ = length c.args.piece.now in
    let piece = rw c.in-End.is at c.in_ok-take_piece.ensures in
    turn_end table old mid (g.L.Link.seen c.finish.new.link) c.args.talk.now c.take_piece.new.talk room c.finish.result
    (takes_same table c.context.result.1 old mid c.args.talk.now c.take_piece.new.talk room _ c.context.ensures.set piece) c.requires.waits
    (finishes_same table c.context.result.1 c.take_piece.new.talk.decoder mid (g.L.Link.seen c.finish.new.link) c.finish.result c.context.ensures.set
    c.finish.ensures)
