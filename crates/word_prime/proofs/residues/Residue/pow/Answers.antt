use Rattle.std.proofs.Common.{◌<◌, ◌∙◌, sym, subst, ℕ}
use Rattle.word_prime.proofs.Powers.{step_even, step_odd}
use Rattle.word_prime.proofs.residues.Residue.pow.Goals as goal
use Rattle.word_prime.proofs.residues.Residue.pow.Goals.{then-rest-eq1, else-rest-eq1}

pub loop-rest-preserved : goal.loop-rest-preserved
loop-rest-preserved g c =
    let square = c.product_of-power.ensures.value in
    elim c.if-rest-eq1.branch [
      | then-rest-eq1 w ↦
          record {
            value = step_odd g.row.P c.loop-rest.product c.loop-rest.power c.loop-rest.rest c.product_of-power.result c.if-rest-eq1.product _ w.if-rest-eq1.true square (w.product-is ∙ w.product_of-product.ensures.value) c.loop-rest.invariant.value;
            below = subst (λ (x : ℕ). x < g.row.P) (sym w.product-is) w.product_of-product.ensures.below;
          }
      | else-rest-eq1 w ↦
          record {
            value = step_even g.row.P c.if-rest-eq1.product c.loop-rest.power c.loop-rest.rest c.product_of-power.result _ w.if-rest-eq1.false square (rw w.product-is c.loop-rest.invariant.value);
            below = subst (λ (x : ℕ). x < g.row.P) (sym w.product-is) c.loop-rest.invariant.below;
          }
    ]
