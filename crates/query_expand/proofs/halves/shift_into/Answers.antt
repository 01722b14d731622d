use Rattle.std.proofs.Common.{◌≡◌, ◌∙◌, ◌++◌, length, take, drop, sym, ap, subst, arith}
use Rattle.spiral_model.specs.Expansion.{cipher_shift}
use Rattle.regev_code.specs.Shapes.{IsCipher}
use Rattle.regev_code.specs.Products.{HasShape}
use Rattle.negacyclic.proofs.Lists.{refilled}
use Rattle.regev_code.proofs.Products.{cipher_kept}
use Rattle.query_expand.proofs.HalfRows.{shift-shape}
use Rattle.query_expand.proofs.halves.shift_into.Goals as goal

whole : (c : goal.After-out-1)
    → take c.out.inside.polys.len (c.shift_rows.new.to ++ drop (length c.shift_rows.new.to) c.out.inside.polys.items) ≡ c.shift_rows.new.to
whole c = refilled _ c.shift_rows.new.to _ (omega arith)

value : (c : goal.After-out-1) → c.shift_rows.new.to ≡ cipher_shift c.args.ring.now c.args.e c.args.c.now
value c =
    c.shift_rows.ensures ∙ ap (cipher_shift c.args.ring.now c.args.e) (c.deref.ensures.value ∙ c.c.view_is)

shape : (c : goal.After-out-1) → HasShape c.args.ring.now 2 c.shift_rows.new.to
shape c =
    subst (HasShape c.args.ring.now 2) (sym (value c)) (shift-shape c.args.ring.now c.args.e 2 c.args.c.now c.requires.c.rows_count)

pub invariant_of-out : goal.invariant_of-out
invariant_of-out c =
    subst IsCipher (sym (whole c))
    (cipher_kept c.args.ring.now c.out.inside.polys.items c.shift_rows.new.to c.out.invariant (omega arith) (shape c).degree)

pub returns-clause-value : goal.returns-clause-value
returns-clause-value c = whole c ∙ value c

pub returns-clause-shape : goal.returns-clause-shape
returns-clause-shape c = subst (HasShape c.args.ring.now 2) (sym (whole c)) (shape c)
