use Rattle.std.proofs.Common.{◌≡◌, pos, ◌<ℤ◌, ◌≤ℤ◌, unsigned_abs, arith}
use Rattle.std.proofs.lemmas.Int.{ints}
use Rattle.spiral_model.specs.Sets.{q}
use Rattle.ring_poly.proofs.Modulus.{q_is}
use Rattle.negacyclic.proofs.Signed.{residue_negative, residue_plain}
use Rattle.regev_code.proofs.sampling.residue_of.Goals as goal

pub returns-then-z-lt0-clause-value : goal.returns-then-z-lt0-clause-value
returns-then-z-lt0-clause-value c =
    let below : c.args.z <ℤ pos 0 = omega (arith, ints) in
    let size : c.from.result ≡ unsigned_abs c.args.z = omega (arith, ints) in
    rw (← q_is) (residue_negative q c.from.result c.args.z below size (omega (arith, ints, q_is)))

pub returns-then-z-lt0-clause-below : goal.returns-then-z-lt0-clause-below
returns-then-z-lt0-clause-below c = omega (arith, ints, q_is)

pub returns-else-z-lt0-clause-value : goal.returns-else-z-lt0-clause-value
returns-else-z-lt0-clause-value c =
    let from : pos 0 ≤ℤ c.args.z = omega (arith, ints) in
    residue_plain q _ c.args.z from (omega (arith, ints)) (omega (arith, ints, q_is))

pub returns-else-z-lt0-clause-below : goal.returns-else-z-lt0-clause-below
returns-else-z-lt0-clause-below c = omega (arith, ints, q_is)
