use Rattle.std.proofs.Common.{◌<◌, true, [], length, ◌∙◌, ap, arith}
use Rattle.negacyclic.specs.Ring.{tau}
use Rattle.spiral_sets.specs.Sets.{q, digit_count}
use Rattle.spiral_model.specs.Words.{Poly, poly_of}
use Rattle.spiral_model.specs.Dealing.{auto_message}
use Rattle.regev_code.specs.Shapes.{under, numbers_under}
use Rattle.regev_code.proofs.Rows.{under_at, under-length, under-count}
use Rattle.auto_switch.proofs.Appended.{each-room}
use Rattle.auto_switch.proofs.AutoMessages.{length-auto_message, digits-more, digits-all, begun}
use Rattle.auto_switch.proofs.key.auto_key.Goals as goal

pub poly-requires : goal.poly-requires
poly-requires c = omega (arith, under-count c.args.ring.now c.args.secret.now true, c.requires.scalar)

pub auto-requires-clause-degree : goal.auto-requires-clause-degree
auto-requires-clause-degree c =
    let within : 0 < length (numbers_under c.args.secret.now true) = omega (arith, under-count c.args.ring.now c.args.secret.now true, c.requires.scalar) in
    under-length c.args.ring.now c.args.secret.now true 0 c.poly.result.now c.requires.degree within c.poly.ensures

pub loop-k-init : goal.loop-k-init
loop-k-init c =
    let s = poly_of (under c.args.ring.now c.args.secret.now true) 0 in
    begun c.args.ring.now c.args.g c.args.w s (under c.args.ring.now c.args.secret.now true) c.args.draw.now c.again-ahead.result c.new-ciphers.result.items
    c.again-ahead.ensures c.new-ciphers.ensures.items

pub draw_digit-requires-clause-enough : goal.draw_digit-requires-clause-enough
draw_digit-requires-clause-enough c =
    let N = c.args.ring.now in
    let s = poly_of (under N c.args.secret.now true) 0 in
    each-room N 1 0 c.loop-k.k (digit_count c.args.w) (under N c.args.secret.now true) (auto_message N c.args.g c.args.w s) c.args.draw.now c.loop-k.ahead [] c.loop-k.ciphers.items
    (omega arith) (length-auto_message N c.args.g c.args.w s) c.loop-k.invariant c.requires.enough

pub loop-k-preserved : goal.loop-k-preserved
loop-k-preserved c =
    let N = c.args.ring.now in
    let s = poly_of (under N c.args.secret.now true) 0 in
    let within : 0 < length (numbers_under c.args.secret.now true) = omega (arith, under-count N c.args.secret.now true, c.requires.scalar) in
    let key = under_at N c.args.secret.now true 0 c.poly.result.now c.requires.degree within c.poly.ensures in
    let image = c.auto.ensures.value ∙ ap (λ (a : Poly). tau q N c.args.g a) key in
    digits-more N c.args.g c.args.w c.loop-k.k s c.auto.new.out (under N c.args.secret.now true) c.args.draw.now c.loop-k.ahead c.draw_digit.new.draw [] c.loop-k.ciphers.items
    c.draw_digit.new.ciphers.items image c.loop-k.invariant c.in_ok-draw_digit.ensures

pub returns-clause-ok : goal.returns-clause-ok
returns-clause-ok c =
    let N = c.args.ring.now in
    digits-all N c.args.g c.args.w c.loop-k.k (poly_of (under N c.args.secret.now true) 0) (under N c.args.secret.now true) c.args.draw.now c.loop-k.ahead c.take_over.new.self
    c.loop-k.ciphers.items (omega arith) c.take_over.ensures c.loop-k.invariant
