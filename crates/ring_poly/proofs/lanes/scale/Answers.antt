use Rattle.std.proofs.Common.{ℕ, ◌%◌, pos, ◌*ℤ◌, get_or, ◌∙◌, ap, arith, length}
use Rattle.negacyclic.specs.Residues.{residue}
use Rattle.negacyclic.specs.Ring.{at, ring_scale}
use Rattle.negacyclic.proofs.Filled.{filled_more, filled_reduced, filled_residues}
use Rattle.ring_poly.proofs.Places.{reduced_factor}
use Rattle.ring_poly.proofs.lanes.scale.Goals as goal

pub loop-k-preserved : goal.loop-k-preserved
unfolding at
loop-k-preserved g c =
    filled_more (λ (k : ℕ). residue g.row.P (pos c.args.z *ℤ at c.args.a.now k)) c.args.out.now c.loop-k.k c.loop-k.out c.product_of.result (omega arith) c.loop-k.invariant
    (c.product_of.ensures.value ∙ ap (λ (m : ℕ). residue g.row.P (pos (c.args.z % m) *ℤ pos (get_or c.args.a.now c.loop-k.k 0))) c.from.ensures ∙ reduced_factor g.row.P c.args.z (get_or c.args.a.now c.loop-k.k 0) c.requires.modulus.0)

pub returns-clause-value : goal.returns-clause-value
unfolding ring_scale
returns-clause-value g c =
    filled_reduced g.row.P (length c.args.a.now) (λ (k : ℕ). pos c.args.z *ℤ at c.args.a.now k) c.args.out.now c.loop-k.k c.loop-k.out (omega arith) (omega arith) c.loop-k.invariant

pub returns-clause-residues : goal.returns-clause-residues
returns-clause-residues g c =
    filled_residues g.row.P (λ (k : ℕ). pos c.args.z *ℤ at c.args.a.now k) c.args.out.now c.loop-k.k c.loop-k.out c.requires.modulus.0 (omega arith) c.loop-k.invariant
