use Rattle.std.proofs.Common.{◌+◌, ◌∙◌, arith}
use Rattle.spiral_model.specs.Sets.{rows}
use Rattle.first_dim.proofs.PlaceSums.{added_none, matrix_within, place_of, place_more, places_done}
use Rattle.first_dim.proofs.places.add_places.Goals as goal

pub loop-i-init : goal.loop-i-init
loop-i-init c =
    let set = c.args.set.now in
    added_none set.degree (rows set + 1) c.args.sum.now (place_of set c.args.matrices.now c.args.firsts.now c.args.j c.args.c) c.requires.sum

pub bounds-matrices-j : goal.bounds-matrices-j
bounds-matrices-j c =
    matrix_within c.args.set.now c.args.matrices.now c.args.j c.loop-i.i c.places-places.result c.requires.matrices c.requires.folded (omega (arith, c.loop-i-test.true)) c.places-places.ensures.value

pub loop-i-preserved : goal.loop-i-preserved
loop-i-preserved c =
    let set = c.args.set.now in
    place_more set c.args.matrices.now c.args.firsts.now c.args.j c.args.c (rows set + 1) c.loop-i.i c.places-places.result
    c.args.sum.now c.loop-i.sum c.add_place.new.sum c.deref.result.now _ c.requires.sum c.requires.matrices c.requires.folded (omega (arith, c.loop-i-test.true)) c.places-places.ensures.value
    (c.deref.ensures.value ∙ c.matrix.view_is) c.index-matrices-j.is c.loop-i.invariant c.add_place.ensures.value

pub returns-clause-value : goal.returns-clause-value
returns-clause-value c =
    let set = c.args.set.now in
    places_done set c.args.matrices.now c.args.firsts.now c.args.j c.args.c (rows set + 1) c.loop-i.i c.args.sum.now c.loop-i.sum
    (omega (arith, c.places-places.ensures.value)) c.loop-i.invariant
