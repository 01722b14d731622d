use Rattle.std.proofs.Common.{◌≡◌, ◌∙◌, ◌++◌, ℕ, List, length, take, drop, sym, ap, subst, arith}
use Rattle.spiral_model.specs.Gadgets.{cipher_add}
use Rattle.regev_code.specs.Shapes.{IsCipher}
use Rattle.regev_code.specs.Products.{HasShape}
use Rattle.negacyclic.proofs.Lists.{refilled}
use Rattle.regev_code.proofs.Products.{cipher_kept}
use Rattle.gsw_code.proofs.Products.{sum-shape}
use Rattle.gsw_code.proofs.product.add_form.Goals as goal

whole : (c : goal.After-low-1) → take c.low.inside.polys.len (c.add_rows.new.rows ++ drop (length c.add_rows.new.rows) c.low.inside.polys.items) ≡ c.add_rows.new.rows
whole c = refilled _ c.add_rows.new.rows _ (omega arith)

value : (c : goal.After-low-1) → c.add_rows.new.rows ≡ cipher_add c.args.ring.now c.args.low.now c.args.sum.now
value c =
    c.add_rows.ensures.value ∙ ap (λ (rows : List (List ℕ)). cipher_add c.args.ring.now rows c.args.sum.now) (c.deref_mut.ensures.value ∙ c.low.view_is)

shape : (c : goal.After-low-1) → HasShape c.args.ring.now (length c.args.low.now) c.add_rows.new.rows
shape c =
    subst (λ (rows : List (List ℕ)). HasShape c.args.ring.now (length c.args.low.now) rows) (sym (value c))
    (sum-shape c.args.ring.now (length c.args.low.now) c.args.low.now c.args.sum.now c.requires.low.rows_count)

pub invariant_of-low : goal.invariant_of-low
invariant_of-low c =
    subst IsCipher (sym (whole c))
    (cipher_kept c.args.ring.now c.low.inside.polys.items c.add_rows.new.rows c.low.invariant (omega arith) (shape c).degree)

pub returns-clause-value : goal.returns-clause-value
returns-clause-value c = whole c ∙ value c

pub returns-clause-shape : goal.returns-clause-shape
returns-clause-shape c =
    subst (λ (rows : List (List ℕ)). HasShape c.args.ring.now (length c.args.low.now) rows) (sym (whole c)) (shape c)
