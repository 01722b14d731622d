use Rattle.negacyclic.specs.Ring.{ring_add, ring_mul}
use Rattle.spiral_model.specs.Sets.{q}
use Rattle.spiral_model.specs.Words.{row_of}
use Rattle.negacyclic.proofs.Filled.{Filled}
use Rattle.regev_code.proofs.product_form.add_products.Given as goal

abbrev pub invariant-loop-i : goal.invariant-loop-i
invariant-loop-i l =
    Filled (λ k. ring_add q l.ring (row_of l.initial.sum k) (ring_mul q l.ring l.a (row_of l.key k))) l.initial.sum l.i l.sum
