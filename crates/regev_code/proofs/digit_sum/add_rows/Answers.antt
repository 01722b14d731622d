use Rattle.std.proofs.Common.{◌≡◌, ◌∙◌, ℕ, [], length, get_or, sym, ap, arith}
use Rattle.std.proofs.lemmas.List.{get_or_read}
use Rattle.negacyclic.specs.Ring.{ring_add}
use Rattle.negacyclic.proofs.Filled.{filled_all}
use Rattle.negacyclic.proofs.Lengths.{length-ring_total}
use Rattle.spiral_model.specs.Sets.{q}
use Rattle.spiral_model.specs.Words.{Poly, row_of}
use Rattle.ring_poly.specs.Sums.{ProductSum}
use Rattle.regev_code.specs.RowSums.{row_sum}
use Rattle.regev_code.proofs.DigitSums.{adds_more, row-degree}
use Rattle.regev_code.proofs.digit_sum.add_rows.Goals as goal

pub add_to-requires : goal.add_to-requires
add_to-requires c =
    let read : c.index-rows-i.result ≡ row_of c.loop-i.rows c.loop-i.i = get_or_read c.loop-i.rows c.loop-i.i c.index-rows-i.result (omega arith) c.index-rows-i.is [] in
    let degree : length c.index-rows-i.result ≡ c.args.ring.now =
    ap length read ∙ row-degree c.args.ring.now c.args.forms.now c.args.key.now c.args.rows.now c.loop-i.i c.loop-i.rows c.loop-i.sum (omega arith) c.requires.rows c.loop-i.invariant in
    ap (λ (s : ProductSum). length s.value) c.sum_row.ensures ∙ length-ring_total q c.args.ring.now (length c.args.forms.now) _ ∙ sym degree ∙ ap length c.index-rows-i.is

pub loop-i-preserved : goal.loop-i-preserved
loop-i-preserved c =
    let read : c.index-rows-i.result ≡ row_of c.loop-i.rows c.loop-i.i = get_or_read c.loop-i.rows c.loop-i.i c.index-rows-i.result (omega arith) c.index-rows-i.is [] in
    let degree : length c.index-rows-i.result ≡ c.args.ring.now =
    ap length read ∙ row-degree c.args.ring.now c.args.forms.now c.args.key.now c.args.rows.now c.loop-i.i c.loop-i.rows c.loop-i.sum (omega arith) c.requires.rows c.loop-i.invariant in
    adds_more c.args.ring.now c.args.forms.now c.args.key.now c.args.rows.now c.loop-i.i _ c.loop-i.rows c.loop-i.sum c.sum_row.new.sum _ c.add_to.new.out (omega arith)
    c.loop-i.invariant c.sum_row.ensures (sym c.index-rows-i.is ∙ read) (ap length (sym c.index-rows-i.is) ∙ degree) c.add_to.ensures.value

pub returns-clause-value : goal.returns-clause-value
returns-clause-value c =
    filled_all (λ (j : ℕ). ring_add q c.args.ring.now (row_of c.args.rows.now j) (row_sum c.args.ring.now c.args.forms.now c.args.key.now j)) c.args.rows.now c.loop-i.i c.loop-i.rows
    c.loop-i-test.false c.loop-i.invariant.filled
