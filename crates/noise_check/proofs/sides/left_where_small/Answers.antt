use Rattle.std.proofs.Common.{◌<◌, ◌≤◌, ap, ◌∙◌, Some, arith}
use Rattle.spiral_sets.specs.Sets.{q}
use Rattle.ring_poly.proofs.Modulus.{q_is}
use Rattle.spiral_model.specs.Noise.{NoiseRow}
use Rattle.noise_check.proofs.ReportRows.{left_there, left_missing}
use Rattle.noise_check.proofs.sides.left_where_small.Goals as goal

pub returns-then-row-from : goal.returns-then-row-from
returns-then-row-from c =
    let seen = ap (λ (r : NoiseRow). r.noise) c.row.view_is in
    let large : q ≤ c.args.row.now.noise = omega (arith, q_is, seen) in left_missing c.args.set.now c.args.row.now large

pub left_side-requires-clause-noise : goal.left_side-requires-clause-noise
left_side-requires-clause-noise c =
    let seen = ap (λ (r : NoiseRow). r.noise) c.row.view_is in omega (arith, q_is, seen)

pub returns : goal.returns
returns c =
    let seen = ap (λ (r : NoiseRow). r.noise) c.row.view_is in
    let small : c.args.row.now.noise < q = omega (arith, q_is, seen) in
    ap (λ left. Some left) c.left_side.ensures ∙ left_there c.args.set.now c.args.row.now small
