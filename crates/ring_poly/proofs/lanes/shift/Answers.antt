use Rattle.std.proofs.Common.{arith, length}
use Rattle.negacyclic.specs.Ring.{at, shift_at, ring_shift}
use Rattle.negacyclic.proofs.Filled.{filled_reduced, filled_residues}
use Rattle.ring_poly.proofs.lanes.shift.Goals as goal

pub returns-clause-value : goal.returns-clause-value
unfolding ring_shift
returns-clause-value g c =
    filled_reduced g.row.P (length c.args.a.now) (shift_at (length c.args.a.now) c.args.e (at c.args.a.now)) c.args.out.now c.loop-k.k c.loop-k.out (omega arith) (omega arith) c.loop-k.invariant

pub returns-clause-residues : goal.returns-clause-residues
returns-clause-residues g c =
    filled_residues g.row.P (shift_at (length c.args.a.now) c.args.e (at c.args.a.now)) c.args.out.now c.loop-k.k c.loop-k.out c.requires.modulus.0 (omega arith) c.loop-k.invariant
