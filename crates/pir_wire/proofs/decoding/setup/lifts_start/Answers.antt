use Rattle.std.proofs.Common.{ℕ, ◌*◌, ap₂, sym, ◌∙◌}
use Rattle.spiral_frames.proofs.SetupBodies.{lifts_start}
use Rattle.pir_wire.proofs.decoding.setup.lifts_start.Goals as goal

pub returns : goal.returns
returns c = ap₂ (λ (x y : ℕ). x * y) c.rounds_count.ensures c.len.ensures ∙ sym (lifts_start c.args.set.now)
