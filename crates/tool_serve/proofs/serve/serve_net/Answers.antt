use Rattle.std.proofs.Common.{inl, inr, refl}
use Rattle.tool_base.specs.Words.{serve_seen}
use Rattle.tool_base.proofs.Courses.{behind}
use Rattle.tool_files.proofs.Answering.{no_database}
use Rattle.tool_serve.proofs.Listening.{heard_by, unheard}
use Rattle.tool_serve.proofs.serve.serve_net.Goals as goal

pub returns-in-Err : goal.returns-in-Err
returns-in-Err g c =
    inl (refl, behind c.in-Err.ensures.only (inl (no_database _ _ _ _ _ c.in-Err.error c.refuse_database.result c.in-Err.ensures c.refuse_database.ensures)))

pub returns-in-Ok-listen : goal.returns-in-Ok-listen
returns-in-Ok-listen g c =
    let files = g.F.Files.seen c.read_db.new.files in
    inr (
      c.in-Ok.db,
      files,
      c.in-Ok.ensures.only,
      c.server_of.ensures.table,
      λ told. (c.in-Ok.ensures.cause told).0,
      heard_by (serve_seen c.args.serve.now) c.in-Ok.db (g.N.Link.seen c.args.net.now) (g.N.Link.seen c.listen.new.self) files (g.O.Sink.seen c.args.sink.now)
          (g.O.Sink.seen c.serve_sessions.new.sink) c.serve_sessions.result c.requires.closed (g.N.Link.seen c.serve_sessions.new.net)
          c.in-Ok-server_of.server.table c.in-Ok-listen.field-0 c.in-Ok-server_of.ensures.server c.in-Ok-listen.ensures c.serve_sessions.ensures,
    )

pub returns-in-Err-Failed : goal.returns-in-Err-Failed
returns-in-Err-Failed g c =
    let files = g.F.Files.seen c.read_db.new.files in
    inr (
      c.in-Ok.db,
      files,
      c.in-Ok.ensures.only,
      c.server_of.ensures.table,
      λ told. (c.in-Ok.ensures.cause told).0,
      unheard (serve_seen c.args.serve.now) c.in-Ok.db (g.N.Link.seen c.args.net.now) (g.N.Link.seen c.listen.new.self) files (g.O.Sink.seen c.args.sink.now)
          (g.O.Sink.seen c.refuse.new.sink) c.refuse.result c.requires.closed c.requires.sessions
          (rw c.in-Err-Failed.field-0-is at c.in-Err-Failed.ensures) c.refuse.ensures,
    )
