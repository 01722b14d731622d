-- What is seen of the sinks in memory.
use Rattle.std.specs.Prelude.{true}
use Rattle.pir_io.specs.declared.mem_sink.MemSink.{MemSink}
use Rattle.pir_io.specs.declared.sound_sink.SoundSink.{SoundSink}
use Rattle.pir_io.specs.Plan.{CallPlan}
use Rattle.pir_io.specs.PlanOf.{call_plan}
use Rattle.pir_io.specs.Sink.{SinkSeen}

abbrev pub mem_sink_seen : MemSink → SinkSeen
mem_sink_seen sink = record { tells = true; bytes = sink.bytes.items; faults = sink.plan.faults }

abbrev pub mem_sink_plan : MemSink → CallPlan
mem_sink_plan sink = call_plan sink.plan

abbrev pub sound_sink_seen : SoundSink → SinkSeen
sound_sink_seen sink = record { tells = true; bytes = sink.bytes.items; faults = 0 }
