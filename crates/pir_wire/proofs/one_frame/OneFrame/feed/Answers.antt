use Rattle.std.proofs.Common.{◌∙◌, ◌++◌, ap, sym, arith, Some, length}
use Rattle.std.proofs.lemmas.Bool.{eqb-false}
use Rattle.spiral_frames.specs.Frames.{frame_of}
use Rattle.spiral_frames.specs.FrameChecks.{one_refusal}
use Rattle.pir_wire.specs.Messages.{message_seen}
use Rattle.pir_wire.specs.OneFrames.{OneRead}
use Rattle.pir_wire.proofs.OneFrames.{whole_then_extra, is_extra, error_of}
use Rattle.pir_wire.proofs.one_frame.OneFrame.feed.Goals as goal

pub returns-in-Whole-2-clause-refused : goal.returns-in-Whole-2-clause-refused
returns-in-Whole-2-clause-refused c error rest e =
    let message = c.in-Whole.message in
    let piece = c.args.piece.now in
    ap (λ (r : OneRead). one_refusal r.kinds ((r.bytes ++ piece) ++ rest)) (sym c.self.view_is)
    ∙ whole_then_extra c.self.inside.kinds c.self.inside.size c.self.inside.stage message piece rest c.self.invariant c.in-Whole.is
    (let some = eqb-false (length piece) 0 (sym c.is_empty.ensures ∙ c.if-is_empty.false) in omega (arith, some))
    ∙ ap Some (is_extra c.extra.result (length (frame_of (message_seen message))) error c.extra.ensures (ap error_of e))
