use Rattle.std.proofs.Common.{◌<◌, ◌≡◌, refl, length, take, arith}
use Rattle.tool_files.specs.Reading.{SpellsOneOf}
use Rattle.tool_files.proofs.ReadingFrames.{front_written}
use Rattle.tool_fetch.proofs.OneReceived.{whole_here, refused_at_end, come_further, refused_here}
use Rattle.tool_fetch.proofs.exchange.receiving.receive_frame.Goals as goal

pub returns-in-Ok-finish-clause-does : goal.returns-in-Ok-finish-clause-does
returns-in-Ok-finish-clause-does g c =
    let room : 0 < length c.read.new.into = omega (arith, c.pieces.invariant.1, c.deref_mut.ensures.len) in
    whole_here (g.L.Link.seen c.args.link.now) (g.L.Link.seen c.pieces.link) (g.L.Link.seen c.read.new.self) c.args.kinds c.pieces.frame
    c.pieces.invariant.0 (omega (arith, c.size.ensures.value, c.size.ensures.short)) _ c.read.new.into c.in-Ok-read.count c.in-Ok-read.ensures c.if-count-eq0.true room c.in-Ok-finish.message c.in-Ok-finish.ensures

pub returns-in-Ok-finish-clause-fits : goal.returns-in-Ok-finish-clause-fits
returns-in-Ok-finish-clause-fits g c = c.in-Ok-finish.ensures.spells.is

pub returns-in-Err-finish-clause-does : goal.returns-in-Err-finish-clause-does
returns-in-Err-finish-clause-does g c =
    let room : 0 < length c.read.new.into = omega (arith, c.pieces.invariant.1, c.deref_mut.ensures.len) in
    refused_at_end (g.L.Link.seen c.args.link.now) (g.L.Link.seen c.pieces.link) (g.L.Link.seen c.read.new.self) c.args.kinds c.pieces.frame
    c.pieces.invariant.0 (omega (arith, c.size.ensures.value, c.size.ensures.short)) _ c.read.new.into c.in-Ok-read.count c.in-Ok-read.ensures c.if-count-eq0.true room c.in-Err-finish.error c.in-Err-finish.ensures

pub returns-in-Err-Frame-clause-does : goal.returns-in-Err-Frame-clause-does
returns-in-Err-Frame-clause-does g c =
    let most : length c.read.new.into ≡ 65536 = omega (arith, c.pieces.invariant.1, c.deref_mut.ensures.len) in
    refused_here (g.L.Link.seen c.args.link.now) (g.L.Link.seen c.pieces.link) (g.L.Link.seen c.read.new.self) c.args.kinds c.pieces.frame
    c.pieces.invariant.0 (omega (arith, c.size.ensures.value, c.size.ensures.short)) _ c.read.new.into
    c.in-Ok-read.count c.in-Ok-read.ensures most (take c.in-Ok-read.count c.deref.result.now)
    (front_written c.in-Ok-read.count _ c.read.new.into _ c.deref.result.now c.deref.ensures.value (omega (arith, c.in-Ok-read.ensures.count, c.deref_mut.ensures.len)) c.in-Ok-read.ensures.count) (SpellsOneOf c.args.kinds)
    c.in-Err-Frame.error (λ rest. (rw c.in-Err-Frame.field-0-is at c.in-Err-Frame.ensures.refused) c.in-Err-Frame.error rest refl)

pub pieces-preserved : goal.pieces-preserved
pieces-preserved g c =
    let most : length c.read.new.into ≡ 65536 = omega (arith, c.pieces.invariant.1, c.deref_mut.ensures.len) in (
      come_further (g.L.Link.seen c.args.link.now) (g.L.Link.seen c.pieces.link) (g.L.Link.seen c.read.new.self) c.args.kinds c.pieces.frame
          c.pieces.invariant.0 (omega (arith, c.size.ensures.value, c.size.ensures.short)) _ c.read.new.into
          c.in-Ok-read.count c.in-Ok-read.ensures most (take c.in-Ok-read.count c.deref.result.now)
          (front_written c.in-Ok-read.count _ c.read.new.into _ c.deref.result.now c.deref.ensures.value (omega (arith, c.in-Ok-read.ensures.count, c.deref_mut.ensures.len)) c.in-Ok-read.ensures.count) c.if-count-eq0.false c.in-Ok-feed.frame c.in-Ok-feed.ensures.read,
      c.pieces.invariant.1,
    )
