use Rattle.std.proofs.Common.{ℕ, [], ◌∙◌, ap, get_or, arith}
use Rattle.spiral_sets.proofs.SetBounds.{degree-most}
use Rattle.spiral_model.specs.Noise.{noise_bound, secret_weight}
use Rattle.noise_check.specs.Rooms.{MeasuredRow}
use Rattle.noise_check.proofs.SideBounds.{q2-large}
use Rattle.noise_check.proofs.measuring.packed_row.Goals as goal

pub returns-clause-noise : goal.returns-clause-noise
returns-clause-noise c =
    let set = c.args.set.now in c.noise_bound.ensures ∙ ap (λ (k : ℕ). noise_bound set c.args.first c.args.gsw k) c.lift_noise-lifts.ensures.value

pub returns-clause-counted : goal.returns-clause-counted
returns-clause-counted c = c.weight.ensures.value ∙ ap (λ (m : MeasuredRow). secret_weight (get_or m.secrets.rows m.row [])) c.lift_noise-lifts.ensures.room

pub returns-clause-weight : goal.returns-clause-weight
returns-clause-weight c =
    let known = c.requires.measured.known in
    omega (arith, c.weight.ensures.size, c.requires.measured.ring_degree, degree-most c.args.set.now known, q2-large c.args.set.now known)
