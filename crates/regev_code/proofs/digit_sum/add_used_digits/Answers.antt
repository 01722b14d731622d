use Rattle.std.proofs.Common.{◌≡◌, ◌∙◌, ℕ, length, ap}
use Rattle.std.proofs.lemmas.List.Elements.{All-same}
use Rattle.std.proofs.lemmas.List.FromFn.{length-map-range_with_len}
use Rattle.negacyclic.specs.Ring.{ring_add}
use Rattle.spiral_model.specs.Sets.{q}
use Rattle.spiral_model.specs.Words.{Poly, row_of}
use Rattle.regev_code.specs.RowSums.{row_sum}
use Rattle.regev_code.proofs.DigitSums.{digit_sums_added, sums-degrees}
use Rattle.regev_code.proofs.digit_sum.add_used_digits.Goals as goal

pub returns-clause-value : goal.returns-clause-value
returns-clause-value c =
    digit_sums_added c.args.ring.now c.args.w (length c.args.forms.now) c.args.x.now c.coeffs_into.new.out c.digits_into.new.out c.load_digits.new.forms c.args.key.now c.args.cipher.now
    c.add_sums.new.cipher c.requires.x c.requires.forms_count c.coeffs_into.ensures.value c.digits_into.ensures.value c.load_digits.ensures.value c.add_sums.ensures.value

pub returns-clause-shape : goal.returns-clause-shape
returns-clause-shape c = record {
  rows_count =
      ap length c.add_sums.ensures.value
      ∙ length-map-range_with_len (λ i. ring_add q c.args.ring.now (row_of c.args.cipher.now i) (row_sum c.args.ring.now c.load_digits.new.forms c.args.key.now i)) 0 (length c.args.cipher.now);
  degree =
      All-same (λ (a : Poly). length a ≡ c.args.ring.now) _ _ c.add_sums.ensures.value
      (sums-degrees c.args.ring.now c.load_digits.new.forms c.args.key.now c.args.cipher.now (length c.args.cipher.now));
}
