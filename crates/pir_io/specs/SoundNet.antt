-- What is seen of a net in memory that never fails.
use Rattle.pir_io.specs.declared.sound_net.SoundNet.{SoundNet}
use Rattle.pir_io.specs.Link.{LinkSeen}
use Rattle.pir_io.specs.NetPlan.{NetPlan}
use Rattle.pir_io.specs.Sessions.{sessions_plan, sessions_seen}

abbrev pub sound_net_plan : SoundNet → NetPlan
sound_net_plan net = sessions_plan net.sessions

abbrev pub sound_net_seen : SoundNet → LinkSeen
sound_net_seen net = sessions_seen 0 net.sessions
