use Rattle.std.proofs.Common.{◌<◌, length, arith}
use Rattle.query_expand.proofs.Expansions.{lifts_each-none, lifts_each-more, lifts_each-all}
use Rattle.query_expand.proofs.expanded_parts.lift_each.Goals as goal

pub loop-c-init : goal.loop-c-init
loop-c-init c =
    lifts_each-none c.args.ring.now c.args.scratch.now c.args.keys.now c.args.ciphers.now c.new-firsts.result.items c.new-firsts.ensures.items

pub loop-c-preserved : goal.loop-c-preserved
loop-c-preserved c =
    let within : c.loop-c.c-index < length c.args.ciphers.now = omega arith in
    lifts_each-more c.args.ring.now c.args.scratch.now c.args.keys.now c.args.ciphers.now c.loop-c.c-index c.loop-c.firsts.items c.append.new.self.items
    c.in_ok-columns.columns.items
    c.c-item.result c.loop-c.scratch c.lift_matrix.new.scratch c.loop-c.invariant within c.c-item.is c.in_ok-columns.ensures.value
    c.in_ok-columns.ensures.shapes
    c.in_ok-columns.ensures.scratch c.in_ok-append.ensures.items

pub returns-clause-value : goal.returns-clause-value
returns-clause-value c =
    lifts_each-all c.args.ring.now c.args.scratch.now c.args.keys.now c.args.ciphers.now c.loop-c.c-index c.loop-c.firsts.items c.loop-c.scratch
    (omega arith) c.loop-c.invariant
