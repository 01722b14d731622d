use Rattle.query_expand.proofs.HalfRows.{even_is, even-shape, same_degree}
use Rattle.query_expand.proofs.halves.keep_even.Goals as goal

pub add_assign-requires-clause-same_degree : goal.add_assign-requires-clause-same_degree
add_assign-requires-clause-same_degree c =
    same_degree c.args.ring.now c.args.c.now c.apply_auto.new.out c.requires.c c.apply_auto.ensures.shape

pub returns-clause-value : goal.returns-clause-value
returns-clause-value c =
    even_is c.args.ring.now c.args.round c.automorphism_of-g.result c.args.key.now c.args.c.now c.apply_auto.new.out c.add_assign.new.self c.requires.c
    c.automorphism_of-g.ensures.value
    c.apply_auto.ensures.value c.add_assign.ensures

pub returns-clause-shape : goal.returns-clause-shape
returns-clause-shape c =
    even-shape c.args.ring.now c.args.round c.args.key.now c.args.c.now c.add_assign.new.self c.requires.c
    (even_is c.args.ring.now c.args.round c.automorphism_of-g.result c.args.key.now c.args.c.now c.apply_auto.new.out c.add_assign.new.self c.requires.c
    c.automorphism_of-g.ensures.value
    c.apply_auto.ensures.value c.add_assign.ensures)
