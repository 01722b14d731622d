use Rattle.std.proofs.Common.{ℕ, pos, ◌+ℤ◌, ◌*ℤ◌, get_or, arith}
use Rattle.negacyclic.specs.Residues.{residue}
use Rattle.negacyclic.specs.Ring.{at}
use Rattle.negacyclic.proofs.Filled.{filled_changed, filled_residues}
use Rattle.word_prime.proofs.Places.{products_added}
use Rattle.word_prime.proofs.lanes.mul_add_lanes.Goals as goal

pub loop-i-preserved : goal.loop-i-preserved
unfolding at
loop-i-preserved g c =
    filled_changed (λ (k x : ℕ). residue g.row.P (pos x +ℤ pos (get_or c.args.a.now k 0) *ℤ pos (get_or c.args.b.now k 0))) 0 c.args.sums.now c.loop-i.i c.loop-i.sums c.sum_of_product.result (omega arith) c.loop-i.invariant
    c.sum_of_product.ensures.value

pub returns-clause-value : goal.returns-clause-value
returns-clause-value g c =
    products_added g.row.P c.args.sums.now c.args.a.now c.args.b.now c.loop-i.i c.loop-i.sums c.requires.modulus.0 c.requires.a_length (omega arith) c.loop-i.invariant

pub returns-clause-residues : goal.returns-clause-residues
returns-clause-residues g c =
    filled_residues g.row.P (λ (k : ℕ). at c.args.sums.now k +ℤ at c.args.a.now k *ℤ at c.args.b.now k) c.args.sums.now c.loop-i.i c.loop-i.sums c.requires.modulus.0 (omega arith) c.loop-i.invariant
