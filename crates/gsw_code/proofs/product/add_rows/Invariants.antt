use Rattle.std.proofs.Common.{◌≡◌, length}
use Rattle.negacyclic.specs.Ring.{ring_add}
use Rattle.negacyclic.proofs.Filled.{Filled}
use Rattle.spiral_sets.specs.Sets.{q}
use Rattle.spiral_model.specs.Words.{row_of}
use Rattle.gsw_code.proofs.product.add_rows.Given as goal

abbrev pub invariant-loop-i : goal.invariant-loop-i
invariant-loop-i l = Filled (λ k. ring_add q l.ring (row_of l.fn.rows k) (row_of l.sum k)) l.fn.rows l.i l.rows × (length l.room ≡ l.ring)
