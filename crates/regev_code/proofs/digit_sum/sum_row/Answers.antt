use Rattle.std.proofs.Common.{◌≡◌, ◌∙◌, ℕ, [], length, sym, ap, arith}
use Rattle.std.proofs.lemmas.List.{get_or_read}
use Rattle.spiral_model.specs.Words.{Cipher, row_of}
use Rattle.regev_code.proofs.DigitSums.{sums_none, sums_more, sums-degree}
use Rattle.regev_code.proofs.digit_sum.sum_row.Goals as goal

pub loop-k-init : goal.loop-k-init
loop-k-init c =
    sums_none c.args.ring.now c.args.forms.now c.args.key.now c.args.i (length c.args.sum.now.value) c.clear.new.self c.requires.sum c.clear.ensures

pub add_product-requires-clause-a_degree : goal.add_product-requires-clause-a_degree
add_product-requires-clause-a_degree c =
    ap length c.index-forms-k.is
    ∙ c.requires.forms c.loop-k.k c.index-forms-k.result c.loop-k-test.true
    ∙ sym (sums-degree c.args.ring.now c.args.forms.now c.args.key.now c.args.i c.loop-k.k c.loop-k.sum c.loop-k.invariant)

pub add_product-requires-clause-b_degree : goal.add_product-requires-clause-b_degree
add_product-requires-clause-b_degree c =
    let inside = c.loop-k-test.true in
    let row = c.requires.row c.loop-k.k c.index-key-k.result (omega (arith, c.requires.keys)) in
    ap length (c.row.ensures ∙ ap (λ (k : Cipher). row_of k c.args.i) c.index-key-k.is)
    ∙ c.requires.key c.loop-k.k c.index-key-k.result (omega (arith, c.requires.keys)) c.args.i [] row
    ∙ sym (sums-degree c.args.ring.now c.args.forms.now c.args.key.now c.args.i c.loop-k.k c.loop-k.sum c.loop-k.invariant)

pub loop-k-preserved : goal.loop-k-preserved
loop-k-preserved c =
    sums_more c.args.ring.now c.args.forms.now c.args.key.now c.args.i c.loop-k.k (length c.loop-k.sum.value) c.loop-k.sum c.add_product.new.self c.index-forms-k.result c.row.result.now
    c.loop-k.invariant (sums-degree c.args.ring.now c.args.forms.now c.args.key.now c.args.i c.loop-k.k c.loop-k.sum c.loop-k.invariant)
    (get_or_read c.args.forms.now c.loop-k.k c.index-forms-k.result c.loop-k-test.true c.index-forms-k.is [])
    (c.row.ensures ∙ ap (λ (k : Cipher). row_of k c.args.i) (get_or_read c.args.key.now c.loop-k.k c.index-key-k.result (omega (arith, c.requires.keys)) c.index-key-k.is []))
    c.add_product.ensures
