use Rattle.std.proofs.Common.{◌≡◌, ◌∙◌, sym, ap, subst, length, List, ℕ, map, replicate, arith}
use Rattle.std.specs.List.{range_with_len}
use Rattle.spiral_model.specs.Words.{row_of}
use Rattle.regev_code.specs.Shapes.{IsCipher}
use Rattle.negacyclic.proofs.Lists.{refilled}
use Rattle.regev_code.proofs.Products.{cleared_all, cleared_kept}
use Rattle.regev_code.proofs.product_form.CipherT.clear.Goals as goal

zeros : (c : goal.After-self-1)
    → c.clear_rows.new.rows ≡ replicate (length c.self.inside.polys.items) (replicate {A = ℕ} (length (row_of c.self.inside.polys.items 0)) 0)
zeros c =
    cleared_all (length (row_of c.self.inside.polys.items 0)) c.self.inside.polys.items c.clear_rows.new.rows c.self.invariant.same
    (c.clear_rows.ensures ∙ ap (λ (rows : List (List ℕ)). map (λ i. replicate {A = ℕ} (length (row_of rows i)) 0) (range_with_len 0 (length rows))) c.deref_mut.ensures.value)

pub invariant_of-self : goal.invariant_of-self
invariant_of-self c =
    subst IsCipher (sym (refilled _ c.clear_rows.new.rows _ (omega arith)))
    (cleared_kept c.self.inside.polys.items c.clear_rows.new.rows c.self.invariant (zeros c))

pub returns : goal.returns
returns c =
    refilled _ c.clear_rows.new.rows _ (omega arith) ∙ zeros c
    ∙ ap (λ (rows : List (List ℕ)). replicate (length rows) (replicate {A = ℕ} (length (row_of rows 0)) 0)) c.self.view_is
