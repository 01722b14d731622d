use Rattle.std.proofs.Common.{arith}
use Rattle.std.proofs.lemmas.Option.{MatchOption-at_none}
use Rattle.pir_wire.specs.Headers.{HasOtherFront}
use Rattle.pir_wire.proofs.Headers.{first_rows-more, first_rows-all}
use Rattle.pir_wire.proofs.decoding.header.read_header.Goals as goal

pub loop-i-preserved : goal.loop-i-preserved
loop-i-preserved c =
    first_rows-more (HasOtherFront c.args.kind c.args.bytes.now) c.loop-i.i c.set_at-set.result c.loop-i.invariant c.set_at-set.ensures.value
    (MatchOption-at_none _ _ c.in_default.is c.in_ok-start.ensures.none)

pub returns-clause-none : goal.returns-clause-none
returns-clause-none c = first_rows-all (HasOtherFront c.args.kind c.args.bytes.now) c.loop-i.i (omega arith) c.loop-i.invariant
