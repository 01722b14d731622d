use Rattle.std.proofs.Common.{ℕ, pos, ◌+ℤ◌, ◌-ℤ◌, ◌*ℤ◌, arith, length}
use Rattle.negacyclic.specs.Ring.{at}
use Rattle.negacyclic.proofs.Filled.{filled_reduced, filled_residues}
use Rattle.ring_transform.proofs.layers.apart_lists.Goals as goal

pub returns-clause-low : goal.returns-clause-low
unfolding at
returns-clause-low g c =
    filled_reduced g.row.P (length c.args.low.now) (λ (k : ℕ). at c.args.low.now k +ℤ pos c.args.w *ℤ at c.args.high.now k) c.args.low.now c.loop-i.i c.loop-i.low (omega arith) (omega arith) c.loop-i.invariant.first

pub returns-clause-high : goal.returns-clause-high
unfolding at
returns-clause-high g c =
    filled_reduced g.row.P (length c.args.low.now) (λ (k : ℕ). at c.args.low.now k -ℤ pos c.args.w *ℤ at c.args.high.now k) c.args.high.now c.loop-i.i c.loop-i.high c.requires.same_length (omega arith) c.loop-i.invariant.second

pub returns-clause-low_residues : goal.returns-clause-low_residues
unfolding at
returns-clause-low_residues g c =
    filled_residues g.row.P (λ (k : ℕ). at c.args.low.now k +ℤ pos c.args.w *ℤ at c.args.high.now k) c.args.low.now c.loop-i.i c.loop-i.low c.requires.modulus.0 (omega arith) c.loop-i.invariant.first

pub returns-clause-high_residues : goal.returns-clause-high_residues
unfolding at
returns-clause-high_residues g c =
    filled_residues g.row.P (λ (k : ℕ). at c.args.low.now k -ℤ pos c.args.w *ℤ at c.args.high.now k) c.args.high.now c.loop-i.i c.loop-i.high c.requires.modulus.0 (omega arith) c.loop-i.invariant.second
