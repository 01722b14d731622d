use Rattle.std.proofs.Common.{true, length, arith}
use Rattle.regev_code.proofs.Rows.{under-count}
use Rattle.regev_code.specs.Shapes.{scalar_of}
use Rattle.noise_check.proofs.LiftNoises.{own_part, other_part}
use Rattle.noise_check.proofs.lift_message.lift_message_into.Goals as goal

pub column_message_into-requires-clause-last : goal.column_message_into-requires-clause-last
column_message_into-requires-clause-last c = omega (arith, under-count c.args.ring.now c.args.secret.now true, c.requires.scalar)

pub returns-then-row-r-clause-value : goal.returns-then-row-r-clause-value
returns-then-row-r-clause-value c =
    own_part c.args.set.now c.args.ring.now c.lift_power.result c.args.r c.args.k c.args.row c.args.secret.now c.column_message_into.new.out c.requires.ring c.if-row-r.true
    c.lift_power.ensures.value c.column_message_into.ensures.value

pub returns-else-row-r-clause-value : goal.returns-else-row-r-clause-value
returns-else-row-r-clause-value c =
    other_part c.args.set.now (length c.args.out.now) c.args.r c.args.k c.args.row (scalar_of c.args.set.now.degree c.args.secret.now) c.clear.new.self
    (omega (arith, c.requires.room, c.requires.ring)) c.if-row-r.false c.clear.ensures
