use Rattle.std.proofs.Common.{ℕ, length}
use Rattle.negacyclic.specs.Ring.{ring_add}
use Rattle.negacyclic.proofs.Filled.{filled_all}
use Rattle.spiral_sets.specs.Sets.{q}
use Rattle.spiral_model.specs.Words.{row_of}
use Rattle.spiral_model.specs.Gadgets.{cipher_add}
use Rattle.regev_code.proofs.cipher.add_rows.Goals as goal

pub returns : goal.returns
unfolding cipher_add
returns c =
    filled_all (λ (k : ℕ). ring_add q (length (row_of c.args.sum.now 0)) (row_of c.args.sum.now k) (row_of c.args.rows.now k)) c.args.sum.now c.loop-i.i c.loop-i.sum
    c.loop-i-test.false c.loop-i.invariant
