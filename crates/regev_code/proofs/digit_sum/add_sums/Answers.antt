use Rattle.std.proofs.Common.{◌≡◌, sym, subst, length, List, ℕ, arith}
use Rattle.std.proofs.lemmas.List.Elements.{All-same}
use Rattle.regev_code.specs.Shapes.{IsCipher}
use Rattle.negacyclic.proofs.Lists.{refilled}
use Rattle.regev_code.proofs.Products.{cipher_kept}
use Rattle.regev_code.proofs.DigitSums.{sums-degrees}
use Rattle.regev_code.proofs.digit_sum.add_sums.Goals as goal

pub invariant_of-cipher : goal.invariant_of-cipher
invariant_of-cipher c =
    subst IsCipher (sym (refilled _ c.add_rows.new.rows _ (omega arith)))
    (cipher_kept c.args.ring.now c.cipher.inside.polys.items c.add_rows.new.rows c.cipher.invariant (omega arith)
    (All-same (λ (a : List ℕ). length a ≡ c.args.ring.now) _ _ c.add_rows.ensures.value
    (sums-degrees c.args.ring.now c.args.forms.now c.args.key.now c.deref_mut.result.now _)))
