-- What is seen of the sessions of a net in memory, beside the faults that it counted.
use Rattle.std.specs.Prelude.{ℕ, List, [], true, false, ◌≡◌, refl, map, length, take, is_some, unwrap_or, slice_get, string_bytes, ◌&&◌, if◌then◌else◌}
use Rattle.std.specs.Option.{option_map}
use Rattle.pir_io.specs.declared.sessions.Opening.{Opening}
use Rattle.pir_io.specs.declared.sessions.Opening.TheVariants.{Connect, Accept}
use Rattle.pir_io.specs.declared.sessions.PastSession.{PastSession}
use Rattle.pir_io.specs.declared.sessions.Sessions.{Sessions}
use Rattle.pir_io.specs.Link.{LinkSeen, Session, Start, connecting, accepting, NetLog, net_log}
use Rattle.pir_io.specs.Net.{IsFresh}
use Rattle.pir_io.specs.NetPlan.{NetPlan}

abbrev pub start_by : Opening → Start
start_by Connect = connecting
start_by Accept = accepting

abbrev pub session_of : PastSession → Session
session_of past = record { took = past.took.items; wrote = past.wrote.items; ended = past.ended; start = start_by past.opening; faults = past.faults }

abbrev pub sessions_plan : Sessions → NetPlan
sessions_plan sessions = record { inputs = map (λ input. input.items) sessions.inputs.items; piece = sessions.piece }

-- what the peer sends in the session at hand
abbrev pub input_of : Sessions → List ℕ
input_of sessions = unwrap_or (option_map (λ input. input.items) (slice_get sessions.inputs.items (length sessions.past.items))) []

abbrev pub sessions_log : Sessions → NetLog
sessions_log sessions = record { past = map session_of sessions.past.items; addr = option_map string_bytes sessions.addr; start = option_map start_by sessions.opening; faults_at_start = sessions.faults_at_start }

-- while no session is at hand, nothing was read or written, and neither side has ended
abbrev pub sessions_seen : ℕ → Sessions → LinkSeen
sessions_seen faults sessions = let is_open = is_some sessions.opening in record {
  tells = true;
  is_open = is_open;
  took = if is_open then take sessions.read (input_of sessions) else [];
  wrote = if is_open then sessions.wrote.items else [];
  ended = is_open && sessions.ended;
  closed = is_open && sessions.closed;
  faults = faults;
  log = net_log (sessions_log sessions);
}

-- without a session all is fresh
pub idle_is_fresh : (faults : ℕ) (sessions : Sessions) → (sessions_seen faults sessions).is_open ≡ false → IsFresh (sessions_seen faults sessions)
idle_is_fresh faults sessions none = record { took = rw none refl; wrote = rw none refl; ended = rw none refl; closed = rw none refl }
