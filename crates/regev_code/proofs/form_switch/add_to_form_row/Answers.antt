use Rattle.std.proofs.Common.{◌≡◌, List, ℕ, length, All, sym, subst, arith}
use Rattle.negacyclic.proofs.Lengths.{length-ring_add}
use Rattle.negacyclic.proofs.Lists.{refilled}
use Rattle.spiral_sets.specs.Sets.{q}
use Rattle.regev_code.specs.Shapes.{IsCipher}
use Rattle.regev_code.proofs.Switching.{row_put_kept}
use Rattle.regev_code.proofs.form_switch.add_to_form_row.Goals as goal

pub invariant_of-cipher : goal.invariant_of-cipher
invariant_of-cipher c =
    subst IsCipher (sym (refilled _ c.add_to_form.new.rows _ (omega arith)))
    (row_put_kept (length c.args.b.now) c.args.r c.cipher.inside.polys.items c.deref_mut.result.now c.add_to_form.new.rows _ c.cipher.invariant
    c.deref_mut.ensures.value
    c.add_to_form.ensures (length-ring_add q (length c.args.b.now) _ _)
    (subst (All (λ (a : List ℕ). length a ≡ length c.args.b.now)) (sym c.cipher.view_is) c.requires.degree))
