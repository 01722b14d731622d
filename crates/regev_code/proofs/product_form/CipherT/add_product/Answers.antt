use Rattle.std.proofs.Common.{◌≡◌, sym, subst, length, List, ℕ, arith}
use Rattle.std.proofs.lemmas.List.Elements.{All-same}
use Rattle.regev_code.specs.Shapes.{IsCipher}
use Rattle.negacyclic.proofs.Lists.{refilled}
use Rattle.regev_code.proofs.Products.{cipher_kept, with_product-degree}
use Rattle.regev_code.proofs.product_form.CipherT.add_product.Goals as goal

pub invariant_of-self : goal.invariant_of-self
invariant_of-self c =
    subst IsCipher (sym (refilled _ c.add_products.new.sum _ (omega arith)))
    (cipher_kept c.args.ring.now c.self.inside.polys.items c.add_products.new.sum c.self.invariant (omega arith)
    (All-same (λ (a : List ℕ). length a ≡ c.args.ring.now) _ _ c.add_products.ensures
    (with_product-degree c.args.ring.now c.args.a.now c.deref.result.now c.deref_mut.result.now)))
