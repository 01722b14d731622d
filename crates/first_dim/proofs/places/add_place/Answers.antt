use Rattle.std.proofs.Common.{◌+◌, arith}
use Rattle.spiral_model.specs.Sets.{rows}
use Rattle.first_dim.proofs.PlaceSums.{added_none, product_more, term_read, place_term, place_done}
use Rattle.first_dim.proofs.places.add_place.Goals as goal

pub loop-r-init : goal.loop-r-init
loop-r-init c =
    let set = c.args.set.now in
    added_none set.degree (rows set + 1) c.args.sum.now (place_term set c.args.firsts.now c.args.matrix.now c.args.i c.args.c) c.requires.sum

pub loop-r-preserved : goal.loop-r-preserved
loop-r-preserved c =
    let set = c.args.set.now in
    product_more set.degree c.args.ring.now (rows set + 1) c.args.sum.now (place_term set c.args.firsts.now c.args.matrix.now c.args.i c.args.c)
    c.loop-r.r c.loop-r.sum c.add_product.new.self _ _ c.requires.degree c.requires.sum c.loop-r.invariant c.add_product.ensures
    (λ row.
    term_read set c.args.firsts.now c.args.matrix.now c.args.i c.args.c c.loop-r.r c.rows-rows.result _ _ row
    c.requires.matrix c.requires.firsts c.requires.place c.requires.column c.rows-rows.ensures.value c.loop-r-test.true c.index-firsts-i.is c.index-matrix-r.is)

pub returns-clause-value : goal.returns-clause-value
returns-clause-value c =
    let set = c.args.set.now in
    place_done set c.args.firsts.now c.args.matrix.now c.args.i c.args.c (rows set + 1) c.loop-r.r c.args.sum.now c.loop-r.sum
    (omega (arith, c.rows-rows.ensures.value)) c.loop-r.invariant
