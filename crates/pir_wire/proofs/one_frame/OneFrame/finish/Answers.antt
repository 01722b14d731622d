use Rattle.std.proofs.Common.{◌∙◌, ap, sym}
use Rattle.spiral_frames.specs.FrameChecks.{one_refusal}
use Rattle.pir_wire.specs.OneFrames.{OneRead}
use Rattle.pir_wire.proofs.OneFrames.{open_is_short}
use Rattle.pir_wire.proofs.one_frame.OneFrame.finish.Goals as goal

pub returns-in-Open : goal.returns-in-Open
returns-in-Open c =
    ap (λ (r : OneRead). one_refusal r.kinds r.bytes) (sym c.self.view_is)
    ∙ open_is_short c.self.inside.kinds c.self.inside.size c.self.inside.stage c.in-Open.field-0 c.self.invariant c.in-Open.is
