-- What the calls of a link and of a net in memory do exactly, where some are to fail.
use Rattle.std.specs.Prelude.{ℕ, Bool, ◌++◌, leb, length, Result, Ok, Err}
use Rattle.pir_io.specs.declared.fault.IoFault.{IoFault}
use Rattle.pir_io.specs.declared.fault.IoFault.TheVariants.{Failed, NoMemory}
use Rattle.pir_io.specs.Link.{LinkSeen}
use Rattle.pir_io.specs.Net.{log_of, at_hand}
use Rattle.pir_io.specs.NetPlan.{NetPlan}
use Rattle.pir_io.specs.Plan.{one_more}

-- what the count of faults becomes by a call with this answer
abbrev pub faults_after : {T : Type 0} → ℕ → Result T IoFault → ℕ
faults_after faults (Ok _) = faults
faults_after faults (Err Failed) = one_more faults
faults_after faults (Err NoMemory) = faults

-- whether no input is left for one more session
abbrev pub none_left : NetPlan → LinkSeen → Bool
none_left plan net = leb (length plan.inputs) (length ((log_of net).past ++ at_hand net))
