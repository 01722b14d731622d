use Rattle.std.proofs.Common.{ℕ, pos, arith}
use Rattle.negacyclic.specs.Residues.{residue}
use Rattle.negacyclic.proofs.Filled.{filled_more, filled_reduced, filled_residues}
use Rattle.spiral_sets.specs.Sets.{q}
use Rattle.spiral_sets.proofs.SetBounds.{degree-most}
use Rattle.spiral_model.specs.Queries.{query_number}
use Rattle.ring_poly.proofs.Modulus.{q_some}
use Rattle.pir_client.proofs.QueryNumbers.{own_residue}
use Rattle.pir_client.proofs.query_message.query_numbers.Goals as goal

pub overflow_cast-k : goal.overflow_cast-k
overflow_cast-k c = omega (arith, c.requires.degree, degree-most c.args.set.now c.requires.known)

pub loop-k-preserved : goal.loop-k-preserved
loop-k-preserved c =
    filled_more (λ (k : ℕ). residue q (pos (query_number c.args.set.now c.args.index k))) c.args.out.now c.loop-k.k c.loop-k.out c.query_number.result
    (omega arith) c.loop-k.invariant
    (own_residue c.query_number.result (query_number c.args.set.now c.args.index c.loop-k.k) c.query_number.ensures.below c.query_number.ensures.value)

pub returns-clause-value : goal.returns-clause-value
returns-clause-value c =
    filled_reduced q c.args.set.now.degree (λ (k : ℕ). pos (query_number c.args.set.now c.args.index k)) c.args.out.now c.loop-k.k c.loop-k.out
    c.requires.degree (omega arith)
    c.loop-k.invariant

pub returns-clause-residues : goal.returns-clause-residues
returns-clause-residues c =
    filled_residues q (λ (k : ℕ). pos (query_number c.args.set.now c.args.index k)) c.args.out.now c.loop-k.k c.loop-k.out q_some (omega arith)
    c.loop-k.invariant
