use Rattle.std.proofs.Common.{◌<◌, refl, length, take, arith}
use Rattle.tool_files.proofs.ReadingFrames.{front_written, whole_here, short_here, come_further, refused_here}
use Rattle.tool_files.proofs.frames.read_frame.Goals as goal

pub returns-in-Ok-finish-clause-reads : goal.returns-in-Ok-finish-clause-reads
returns-in-Ok-finish-clause-reads g c =
    let room : 0 < length c.read_at.new.into = omega (arith, c.pieces.invariant.1, c.deref_mut.ensures.len) in
    whole_here (g.F.Files.seen c.args.files.now) (g.F.Files.seen c.pieces.files) (g.F.Files.seen c.read_at.new.self) c.args.name.now c.args.kinds c.pieces.frame _ c.read_at.new.into
    c.size-in-pieces.result c.size-in-pieces.ensures.value c.pieces.invariant.0 c.in-Ok-read_at.count c.in-Ok-read_at.ensures c.if-count-eq0.true room c.in-Ok-finish.message c.in-Ok-finish.ensures

pub returns-in-Ok-finish-clause-fits : goal.returns-in-Ok-finish-clause-fits
returns-in-Ok-finish-clause-fits g c = c.in-Ok-finish.ensures.spells.is

pub returns-in-Err-finish-clause-reads : goal.returns-in-Err-finish-clause-reads
returns-in-Err-finish-clause-reads g c =
    let room : 0 < length c.read_at.new.into = omega (arith, c.pieces.invariant.1, c.deref_mut.ensures.len) in
    short_here (g.F.Files.seen c.args.files.now) (g.F.Files.seen c.pieces.files) (g.F.Files.seen c.read_at.new.self) c.args.name.now c.args.kinds c.pieces.frame _ c.read_at.new.into
    c.size-in-pieces.result c.size-in-pieces.ensures.value c.pieces.invariant.0 c.in-Ok-read_at.count c.in-Ok-read_at.ensures c.if-count-eq0.true room c.in-Err-finish.error c.in-Err-finish.ensures

pub returns-in-Err-Frame-clause-reads : goal.returns-in-Err-Frame-clause-reads
returns-in-Err-Frame-clause-reads g c =
    refused_here (g.F.Files.seen c.args.files.now) (g.F.Files.seen c.pieces.files) (g.F.Files.seen c.read_at.new.self) c.args.name.now c.args.kinds c.pieces.frame _ c.read_at.new.into
    c.size-in-pieces.result c.size-in-pieces.ensures.value c.pieces.invariant.0 c.in-Ok-read_at.count c.in-Ok-read_at.ensures
    (take c.in-Ok-read_at.count c.deref.result.now) (front_written c.in-Ok-read_at.count _ c.read_at.new.into _ c.deref.result.now c.deref.ensures.value (omega (arith, c.in-Ok-read_at.ensures.count, c.deref_mut.ensures.len)) c.in-Ok-read_at.ensures.count) c.in-Err-Frame.error (λ rest. (rw c.in-Err-Frame.field-0-is at c.in-Err-Frame.ensures.refused) c.in-Err-Frame.error rest refl)

pub pieces-preserved : goal.pieces-preserved
pieces-preserved g c = (
  come_further (g.F.Files.seen c.args.files.now) (g.F.Files.seen c.pieces.files) (g.F.Files.seen c.read_at.new.self) c.args.name.now c.args.kinds c.pieces.frame _ c.read_at.new.into
      c.size-in-pieces.result c.size-in-pieces.ensures.value c.pieces.invariant.0 c.in-Ok-read_at.count c.in-Ok-read_at.ensures
      (take c.in-Ok-read_at.count c.deref.result.now) (front_written c.in-Ok-read_at.count _ c.read_at.new.into _ c.deref.result.now c.deref.ensures.value (omega (arith, c.in-Ok-read_at.ensures.count, c.deref_mut.ensures.len)) c.in-Ok-read_at.ensures.count) c.in-Ok-feed.frame c.in-Ok-feed.ensures.read,
  c.pieces.invariant.1,
)
