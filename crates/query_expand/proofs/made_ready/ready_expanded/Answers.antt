use Rattle.std.proofs.Common.{[], arith}
use Rattle.std.proofs.lemmas.List.{get_or_read}
use Rattle.query_expand.proofs.Expansions.{expanded-is}
use Rattle.query_expand.proofs.made_ready.ready_expanded.Goals as goal

pub returns-clause-value : goal.returns-clause-value
returns-clause-value c =
    let many = c.in_ok-sides.ensures.many in
    expanded-is c.args.ring.now c.args.set.now c.args.keys.now c.args.c.now c.index.result.now c.index-2.result.now c.in_ok-sides.sides.items
    c.in_ok-expanded_firsts.field-0.items c.in_ok-expanded_gsws.field-0.items c.requires.ring c.in_ok-sides.ensures.value
    (get_or_read c.in_ok-sides.sides.items 0 c.index.result.now (omega (arith, many)) c.index.ensures [])
    (get_or_read c.in_ok-sides.sides.items 1 c.index-2.result.now (omega (arith, many)) c.index-2.ensures [])
    c.in_ok-expanded_firsts.ensures.value c.in_ok-expanded_gsws.ensures.value
