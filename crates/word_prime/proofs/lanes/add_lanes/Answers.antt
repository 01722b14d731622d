use Rattle.std.proofs.Common.{ℕ, ◌+ℤ◌, arith, length}
use Rattle.negacyclic.specs.Ring.{at, ring_add}
use Rattle.negacyclic.proofs.Filled.{filled_combined, filled_reduced, filled_residues}
use Rattle.word_prime.proofs.lanes.add_lanes.Goals as goal

pub loop-i-preserved : goal.loop-i-preserved
loop-i-preserved g c =
    filled_combined g.row.P (λ x y. x +ℤ y) c.args.a.now c.args.b.now c.loop-i.i c.loop-i.a c.sum_of.result (omega arith) c.loop-i.invariant c.sum_of.ensures.value

pub returns-clause-value : goal.returns-clause-value
unfolding ring_add
returns-clause-value g c =
    filled_reduced g.row.P (length c.args.a.now) (λ (k : ℕ). at c.args.a.now k +ℤ at c.args.b.now k) c.args.a.now c.loop-i.i c.loop-i.a (omega arith) (omega arith) c.loop-i.invariant

pub returns-clause-residues : goal.returns-clause-residues
returns-clause-residues g c =
    filled_residues g.row.P (λ (k : ℕ). at c.args.a.now k +ℤ at c.args.b.now k) c.args.a.now c.loop-i.i c.loop-i.a c.requires.modulus.0 (omega arith) c.loop-i.invariant
