use Rattle.std.proofs.Common.{ℕ, arith}
use Rattle.negacyclic.specs.Ring.{ring_add}
use Rattle.negacyclic.proofs.Filled.{filled_all}
use Rattle.spiral_sets.specs.Sets.{q}
use Rattle.spiral_model.specs.Words.{row_of}
use Rattle.spiral_model.specs.Gadgets.{cipher_add}
use Rattle.gsw_code.proofs.product.add_rows.Goals as goal

pub returns-clause-value : goal.returns-clause-value
unfolding cipher_add
returns-clause-value c =
    filled_all (λ (k : ℕ). ring_add q c.args.ring.now (row_of c.args.rows.now k) (row_of c.args.sum.now k)) c.args.rows.now c.loop-i.i c.loop-i.rows (omega arith) c.loop-i.invariant.0
