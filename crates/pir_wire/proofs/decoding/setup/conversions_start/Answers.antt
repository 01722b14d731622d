use Rattle.std.proofs.Common.{ℕ, ◌+◌, ◌*◌, ap₂, sym, ◌∙◌}
use Rattle.spiral_frames.proofs.SetupBodies.{lifts_start, conversions_start}
use Rattle.pir_wire.proofs.decoding.setup.conversions_start.Goals as goal

pub returns : goal.returns
returns c =
    ap₂ (λ (x y : ℕ). x + y) (c.lifts_start.ensures ∙ lifts_start c.args.set.now) (ap₂ (λ (x y : ℕ). x * y) c.lifts_count.ensures c.len.ensures)
    ∙ sym (conversions_start c.args.set.now)
