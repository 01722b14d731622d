use Rattle.std.proofs.Common.{◌∙◌, ap, refl, arith, Some, ℕ, length}
use Rattle.bit_packing.proofs.Windows.{bytes_below}
use Rattle.spiral_frames.specs.Frames.{frame_of}
use Rattle.pir_wire.specs.Messages.{message_seen}
use Rattle.pir_wire.specs.OneFrames.{bytes_at_hand}
use Rattle.pir_wire.proofs.OneFrames.{kept_open, open_bytes_are, kept_whole, whole_bytes_are, extra_refused, extra_behind, none_then_refused, is_extra, same_frame, error_of, read_of}
use Rattle.pir_wire.proofs.one_frame.feed_open.Goals as goal

pub invariant_of-result : goal.invariant_of-result
invariant_of-result c =
    kept_open c.args.kinds c.args.size (bytes_at_hand c.args.decoder.condition) c.args.piece.now c.args.decoder c.feed.new.self c.take.new.self
    c.requires.reading (bytes_below c.args.piece.now c.type_inv.piece) c.in-Ok.ensures.0 c.in-None.ensures.takes.0 c.in-None.ensures.takes.1
    c.in-Ok.ensures.1 c.in-Ok.ensures.2

pub returns-in-None-clause-read : goal.returns-in-None-clause-read
returns-in-None-clause-read c =
    ap (read_of c.args.kinds)
    (open_bytes_are c.args.kinds c.args.size (bytes_at_hand c.args.decoder.condition) c.args.piece.now c.args.decoder c.feed.new.self c.take.new.self
    c.requires.reading (bytes_below c.args.piece.now c.type_inv.piece) c.in-Ok.ensures.0 c.in-None.ensures.takes.0 c.in-None.ensures.takes.1
    c.in-Ok.ensures.1 c.in-Ok.ensures.2)

pub returns-in-Some-clause-refused : goal.returns-in-Some-clause-refused
returns-in-Some-clause-refused c error rest e =
    let m = message_seen c.in-Some.message in
    let takes = c.in-Some.ensures.takes in
    extra_refused c.args.kinds c.args.size (bytes_at_hand c.args.decoder.condition) c.args.piece.now c.args.decoder c.feed.new.self c.take.new.self
    c.requires.reading (bytes_below c.args.piece.now c.type_inv.piece) c.in-Ok.ensures.0 m takes.0 takes.1 takes.2
    (omega (arith, ap (λ (k : ℕ). k) c.frame_len.ensures, c.if-frame_len-size.true)) rest
    ∙ ap Some (is_extra c.extra.result (length (frame_of m)) error c.extra.ensures (ap error_of e))

pub invariant_of-result-in-Some-2 : goal.invariant_of-result-in-Some-2
invariant_of-result-in-Some-2 c =
    let message = c.in-Some.message in
    let takes = c.in-Some.ensures.takes in
    kept_whole c.args.kinds c.args.size (bytes_at_hand c.args.decoder.condition) c.args.piece.now c.args.decoder c.feed.new.self c.take.new.self
    c.requires.reading (bytes_below c.args.piece.now c.type_inv.piece) c.in-Ok.ensures.0 (message_seen message) takes.0 takes.1 takes.2
    (omega (arith, c.frame_len.ensures, c.if-frame_len-size.false)) message refl

pub returns-in-Ok-clause-read : goal.returns-in-Ok-clause-read
returns-in-Ok-clause-read c =
    let takes = c.in-Some.ensures.takes in
    ap (read_of c.args.kinds)
    (whole_bytes_are c.args.kinds c.args.size (bytes_at_hand c.args.decoder.condition) c.args.piece.now c.args.decoder c.feed.new.self c.take.new.self
    c.requires.reading (bytes_below c.args.piece.now c.type_inv.piece) c.in-Ok.ensures.0 (message_seen c.in-Some.message) takes.0 takes.1 takes.2
    (omega (arith, c.frame_len.ensures, c.if-frame_len-size.false)))

pub returns-in-None-take-clause-refused : goal.returns-in-None-take-clause-refused
returns-in-None-take-clause-refused c error rest e =
    let fails = rw c.in-Err-Frame.field-0-is at c.in-Err-Frame.ensures in
    none_then_refused c.args.kinds c.args.size (bytes_at_hand c.args.decoder.condition) c.args.piece.now c.args.decoder c.feed.new.self c.take-in-Err-Frame.new.self
    c.requires.reading (bytes_below c.args.piece.now c.type_inv.piece) fails.0 c.in-None-take.ensures.takes.0
    c.in-Err-Frame.error fails.1 rest
    ∙ ap Some (same_frame c.in-Err-Frame.error error (ap error_of e))

pub returns-in-Err-Frame-clause-refused : goal.returns-in-Err-Frame-clause-refused
returns-in-Err-Frame-clause-refused c error rest e =
    let m = message_seen c.in-Some-take.message in
    let takes = c.in-Some-take.ensures.takes in
    let fails = rw c.in-Err-Frame.field-0-is at c.in-Err-Frame.ensures in
    extra_behind c.args.kinds c.args.size (bytes_at_hand c.args.decoder.condition) c.args.piece.now c.args.decoder c.feed.new.self c.take-in-Err-Frame.new.self
    c.requires.reading (bytes_below c.args.piece.now c.type_inv.piece) fails.0 m takes.0 takes.1 takes.2
    c.in-Err-Frame.error fails.1 rest
    ∙ ap Some (is_extra c.extra-in-Some-take.result (length (frame_of m)) error c.extra-in-Some-take.ensures (ap error_of e))
