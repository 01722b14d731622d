use Rattle.std.proofs.Common.{ap}
use Rattle.std.specs.Option.{option_copied}
use Rattle.noise_check.proofs.LiftNoises.{lift_lent}
use Rattle.noise_check.proofs.measuring.measure.Goals as goal

pub packed_report-requires-clause-keys : goal.packed_report-requires-clause-keys
packed_report-requires-clause-keys c =
    lift_lent c.args.set.now _ c.in-Some.keys.now _ c.deref.result.now c.if-set.true c.requires.keys (ap option_copied c.in-Some.is) c.keys.view_is c.keys.invariant
    c.deref.ensures.value
