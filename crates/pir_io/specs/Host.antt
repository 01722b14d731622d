-- What is seen of the real files, of standard output and of the system's connections: how often they failed, and whether
-- a connection is at hand.
use Rattle.std.specs.Prelude.{false, None, [], refl, is_some, ◌≡◌, ◌*◌, ◌^◌}
use Rattle.std.specs.Duration.{as_nanos}
use Rattle.pir_io.specs.declared.host_files.HostFiles.{HostFiles}
use Rattle.pir_io.specs.declared.out_sink.OutSink.{OutSink}
use Rattle.pir_io.specs.declared.tcp_net.Limits.{Limits}
use Rattle.pir_io.specs.declared.tcp_net.TcpNet.{TcpNet}
use Rattle.pir_io.specs.Files.{FilesSeen}
use Rattle.pir_io.specs.Link.{LinkSeen, no_log}
use Rattle.pir_io.specs.Net.{IsFresh}
use Rattle.pir_io.specs.Sink.{SinkSeen}

abbrev pub host_files_seen : {R File Dir : Type 0} → HostFiles R File Dir → FilesSeen
host_files_seen files = record { tells = false; content = λ _. None; faults = files.faults; last_failed = None }

abbrev pub out_sink_seen : {R : Type 0} → OutSink R → SinkSeen
out_sink_seen sink = record { tells = false; bytes = []; faults = sink.faults }

abbrev pub tcp_net_seen : {R Stream Listener : Type 0} → TcpNet R Stream Listener → LinkSeen
tcp_net_seen net = record { tells = false; is_open = is_some net.connection; took = []; wrote = []; ended = false; closed = false; faults = net.faults; log = no_log }

-- it tells no bytes, and neither end
pub tcp_net_is_fresh : {R Stream Listener : Type 0} → (net : TcpNet R Stream Listener) → IsFresh (tcp_net_seen net)
tcp_net_is_fresh net = record { took = refl; wrote = refl; ended = refl; closed = refl }

-- the program's limits: 60 s, 600 s and 600 s
pub record AreUsual (limits : Limits) : Type 0 where
  pub accepted_silence : as_nanos limits.accepted_silence ≡ 60 * 10 ^ 9
  pub accepted_session : as_nanos limits.accepted_session ≡ 600 * 10 ^ 9
  pub own_silence : as_nanos limits.own_silence ≡ 600 * 10 ^ 9
