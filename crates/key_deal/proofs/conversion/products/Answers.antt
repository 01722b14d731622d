use Rattle.std.proofs.Common.{◌<◌, true, [], length, get_or, ◌∙◌, ap, arith}
use Rattle.negacyclic.specs.Ring.{ring_mul}
use Rattle.spiral_sets.specs.Sets.{q}
use Rattle.spiral_model.specs.Words.{Poly}
use Rattle.regev_code.specs.Shapes.{under, numbers_under}
use Rattle.regev_code.proofs.Rows.{under_at, under-length, under-count}
use Rattle.key_deal.specs.DealtKeys.{scalar_of}
use Rattle.key_deal.proofs.Conversions.{product_of, mapped-more, mapped-all}
use Rattle.key_deal.proofs.conversion.products.Goals as goal

pub poly-s-requires : goal.poly-s-requires
poly-s-requires c = omega (arith, under-count c.args.ring.now c.args.secret.now true, c.requires.scalar)

pub poly-requires : goal.poly-requires
poly-requires c = omega (arith, under-count c.args.ring.now c.args.secret.now c.args.scalar, c.requires.rows)

pub mul-requires-clause-a_degree : goal.mul-requires-clause-a_degree
mul-requires-clause-a_degree c =
    let within : c.loop-i.i < length (numbers_under c.args.secret.now c.args.scalar) = omega (arith, under-count c.args.ring.now c.args.secret.now c.args.scalar, c.requires.rows) in
    under-length c.args.ring.now c.args.secret.now c.args.scalar c.loop-i.i c.poly.result.now c.requires.degree within c.poly.ensures

pub mul-requires-clause-b_degree : goal.mul-requires-clause-b_degree
mul-requires-clause-b_degree c =
    let within : 0 < length (numbers_under c.args.secret.now true) = omega (arith, under-count c.args.ring.now c.args.secret.now true, c.requires.scalar) in
    under-length c.args.ring.now c.args.secret.now true 0 c.poly-s.result.now c.requires.degree within c.poly-s.ensures

pub loop-i-preserved : goal.loop-i-preserved
loop-i-preserved c =
    let N = c.args.ring.now in
    let secret = c.args.secret.now in
    let secrets = under N secret c.args.scalar in
    let within : c.loop-i.i < length (numbers_under secret c.args.scalar) = omega (arith, under-count N secret c.args.scalar, c.requires.rows) in
    let first : 0 < length (numbers_under secret true) = omega (arith, under-count N secret true, c.requires.scalar) in
    let row = under_at N secret c.args.scalar c.loop-i.i c.poly.result.now c.requires.degree within c.poly.ensures in
    let s = under_at N secret true 0 c.poly-s.result.now c.requires.degree first c.poly-s.ensures in
    mapped-more (product_of N (scalar_of N secret)) secrets c.loop-i.i [] c.loop-i.products.items c.push.new.self.items c.in_ok-mul.field-0
    (omega (arith, c.requires.rows)) c.loop-i.invariant c.in_ok-push.ensures.items
    (c.in_ok-mul.ensures.value ∙ ap (λ (a : Poly). ring_mul q N a c.poly-s.result.now) row ∙ ap (λ (b : Poly). ring_mul q N (get_or secrets c.loop-i.i []) b) s)

pub returns : goal.returns
returns c =
    let N = c.args.ring.now in
    mapped-all (product_of N (scalar_of N c.args.secret.now)) (under N c.args.secret.now c.args.scalar) c.loop-i.i c.loop-i.products.items
    (omega (arith, c.requires.rows)) c.loop-i.invariant
