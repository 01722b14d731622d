-- What is seen of a net in memory whose listed calls fail.
use Rattle.pir_io.specs.declared.mem_net.MemNet.{MemNet}
use Rattle.pir_io.specs.Link.{LinkSeen}
use Rattle.pir_io.specs.NetPlan.{NetPlan}
use Rattle.pir_io.specs.Plan.{CallPlan}
use Rattle.pir_io.specs.PlanOf.{call_plan}
use Rattle.pir_io.specs.Sessions.{sessions_plan, sessions_seen}

abbrev pub mem_net_plan : MemNet → NetPlan
mem_net_plan net = sessions_plan net.sessions

abbrev pub mem_net_calls : MemNet → CallPlan
mem_net_calls net = call_plan net.plan

abbrev pub mem_net_seen : MemNet → LinkSeen
mem_net_seen net = sessions_seen net.plan.faults net.sessions
