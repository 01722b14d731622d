use Rattle.std.proofs.Common.{length, get_or, refl, arith}
use Rattle.negacyclic.proofs.Filled.{filled_reduced, filled_residues}
use Rattle.spiral_model.specs.Sets.{q}
use Rattle.spiral_model.specs.Records.{centred_value}
use Rattle.ring_poly.proofs.Modulus.{q_some}
use Rattle.first_dim.proofs.entries.centre.Goals as goal

pub returns-clause-value : goal.returns-clause-value
returns-clause-value c =
    let numbers = c.args.numbers.now in
    filled_reduced q (length numbers) (λ k. centred_value c.args.p (get_or numbers k 0)) numbers c.loop-k.k c.loop-k.numbers refl
    (omega (arith, c.loop-k-test.false, c.loop-k.invariant.count)) c.loop-k.invariant

pub returns-clause-residues : goal.returns-clause-residues
returns-clause-residues c =
    let numbers = c.args.numbers.now in
    filled_residues q (λ k. centred_value c.args.p (get_or numbers k 0)) numbers c.loop-k.k c.loop-k.numbers q_some
    (omega (arith, c.loop-k-test.false, c.loop-k.invariant.count)) c.loop-k.invariant
