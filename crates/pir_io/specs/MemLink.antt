-- What is seen of a link in memory whose listed calls fail.
use Rattle.std.specs.Prelude.{[], ◌∷◌, true, false, take}
use Rattle.pir_io.specs.declared.mem_link.MemLink.{MemLink}
use Rattle.pir_io.specs.Link.{LinkSeen, no_log}
use Rattle.pir_io.specs.NetPlan.{NetPlan}
use Rattle.pir_io.specs.Plan.{CallPlan}
use Rattle.pir_io.specs.PlanOf.{call_plan}

-- its one input is that of the session at hand
abbrev pub mem_link_plan : MemLink → NetPlan
mem_link_plan link = record { inputs = link.input.items ∷ []; piece = link.piece }

abbrev pub mem_link_calls : MemLink → CallPlan
mem_link_calls link = call_plan link.plan

abbrev pub mem_link_seen : MemLink → LinkSeen
mem_link_seen link = record {
  tells = true;
  is_open = true;
  took = take link.read link.input.items;
  wrote = link.wrote.items;
  ended = link.ended;
  closed = link.closed;
  faults = link.plan.faults;
  log = no_log;
}

-- nothing was read or written, and neither side has ended
abbrev pub unused_link : LinkSeen
unused_link = record { tells = true; is_open = true; took = []; wrote = []; ended = false; closed = false; faults = 0; log = no_log }
