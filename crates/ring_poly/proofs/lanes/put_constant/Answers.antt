use Rattle.std.proofs.Common.{ℕ, ◌==◌, if◌then◌else◌, pos, arith, length}
use Rattle.negacyclic.proofs.Filled.{filled_reduced, filled_residues}
use Rattle.ring_poly.proofs.lanes.put_constant.Goals as goal

pub returns-clause-value : goal.returns-clause-value
returns-clause-value g c =
    filled_reduced g.row.P (length c.args.a.now) (λ (k : ℕ). if k == 0 then pos c.args.z else pos 0) c.args.a.now c.loop-place.place c.loop-place.a (omega arith) (omega arith)
    c.loop-place.invariant

pub returns-clause-residues : goal.returns-clause-residues
returns-clause-residues g c =
    filled_residues g.row.P (λ (k : ℕ). if k == 0 then pos c.args.z else pos 0) c.args.a.now c.loop-place.place c.loop-place.a c.requires.0 (omega arith) c.loop-place.invariant
