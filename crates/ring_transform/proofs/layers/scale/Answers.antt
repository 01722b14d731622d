use Rattle.std.proofs.Common.{ℕ, pos, ◌*ℤ◌, arith, length}
use Rattle.negacyclic.specs.Residues.{residue}
use Rattle.negacyclic.specs.Ring.{at}
use Rattle.negacyclic.proofs.Filled.{filled_changed, filled_reduced, filled_residues}
use Rattle.ring_transform.proofs.layers.scale.Goals as goal

pub loop-i-preserved : goal.loop-i-preserved
unfolding at
loop-i-preserved g c =
    filled_changed (λ (k x : ℕ). residue g.row.P (pos c.args.w *ℤ pos x)) 0 c.args.a.now c.loop-i.i c.loop-i.a c.product_by.result (omega arith) c.loop-i.invariant c.product_by.ensures.value

pub returns-clause-value : goal.returns-clause-value
returns-clause-value g c =
    filled_reduced g.row.P (length c.args.a.now) (λ (k : ℕ). pos c.args.w *ℤ at c.args.a.now k) c.args.a.now c.loop-i.i c.loop-i.a (omega arith) (omega arith) c.loop-i.invariant

pub returns-clause-residues : goal.returns-clause-residues
returns-clause-residues g c =
    filled_residues g.row.P (λ (k : ℕ). pos c.args.w *ℤ at c.args.a.now k) c.args.a.now c.loop-i.i c.loop-i.a c.requires.modulus.0 (omega arith) c.loop-i.invariant
