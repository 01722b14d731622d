use Rattle.std.proofs.Common.{◌≡◌, ◌∙◌, ◌++◌, length, take, drop, refl, sym, ap₂, subst, arith}
use Rattle.spiral_model.specs.Gadgets.{cipher_add}
use Rattle.spiral_model.specs.Words.{Cipher, row_of}
use Rattle.regev_code.specs.Shapes.{IsCipher}
use Rattle.regev_code.specs.Products.{HasShape}
use Rattle.negacyclic.proofs.Lists.{refilled}
use Rattle.regev_code.proofs.Products.{cipher_kept}
use Rattle.regev_code.proofs.Sums.{sum-shape}
use Rattle.regev_code.proofs.cipher.Cipher.add_assign.Goals as goal

whole : (c : goal.After-self-1) → take c.self.inside.polys.len (c.add_rows.new.sum ++ drop (length c.add_rows.new.sum) c.self.inside.polys.items) ≡ c.add_rows.new.sum
whole c = refilled _ c.add_rows.new.sum _ (omega arith)

value : (c : goal.After-self-1) → c.add_rows.new.sum ≡ cipher_add (length (row_of c.args.self.now 0)) c.args.self.now c.args.c.now
value c =
    c.add_rows.ensures
    ∙ ap₂ (λ (old rows : Cipher). cipher_add (length (row_of old 0)) old rows) (c.deref_mut.ensures.value ∙ c.self.view_is) (c.deref.ensures.value ∙ c.c.view_is)

shape : (c : goal.After-self-1) → HasShape (length (row_of c.args.self.now 0)) (length c.args.self.now) c.add_rows.new.sum
shape c =
    subst (HasShape (length (row_of c.args.self.now 0)) (length c.args.self.now)) (sym (value c))
    (sum-shape (length (row_of c.args.self.now 0)) (length c.args.self.now) c.args.self.now c.args.c.now refl)

pub invariant_of-self : goal.invariant_of-self
invariant_of-self c =
    subst IsCipher (sym (whole c))
    (cipher_kept (length (row_of c.args.self.now 0)) c.self.inside.polys.items c.add_rows.new.sum c.self.invariant (omega arith) (shape c).degree)

pub returns : goal.returns
returns c = whole c ∙ value c
