use Rattle.std.proofs.Common.{arith}
use Rattle.pir_wire.proofs.ReplyParts.{count_found, no_length_found, length_found}
use Rattle.pir_wire.proofs.decoder.reply.front_refusal.Goals as goal

pub returns-then-count-max_records-clause-refused : goal.returns-then-count-max_records-clause-refused
returns-then-count-max_records-clause-refused c =
    count_found c.args.set.now c.args.front.now c.place_in_frame.result c.number_at-count.result (omega (arith, c.if-front-lt8.false)) c.place_in_frame.ensures
    c.number_at-count.ensures (omega (arith, c.if-count-max_records.true, c.max_records.ensures))

pub returns-then-length-eq0-clause-refused : goal.returns-then-length-eq0-clause-refused
returns-then-length-eq0-clause-refused c =
    no_length_found c.args.set.now c.args.front.now c.place_in_frame-then-length-eq0.result c.number_at-length.result c.number_at-count.result
    (omega (arith, c.if-front-lt-FRONT.false)) c.number_at-count.ensures (omega (arith, c.if-count-max_records.false, c.max_records.ensures))
    c.place_in_frame-then-length-eq0.ensures c.number_at-length.ensures (omega (arith, c.if-length-eq0.true))

pub returns-then-length-capacity-clause-refused : goal.returns-then-length-capacity-clause-refused
returns-then-length-capacity-clause-refused c =
    length_found c.args.set.now c.args.front.now c.place_in_frame-then-length-capacity.result c.number_at-length.result c.number_at-count.result
    (omega (arith, c.if-front-lt-FRONT.false)) c.number_at-count.ensures (omega (arith, c.if-count-max_records.false, c.max_records.ensures))
    c.place_in_frame-then-length-capacity.ensures c.number_at-length.ensures (omega (arith, c.if-length-eq0.false))
    (omega (arith, c.if-length-capacity.true, c.capacity.ensures))
