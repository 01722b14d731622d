-- A net: a link whose sessions are started by connect and accept, one at a time.
use Rattle.std.specs.Prelude.{ℕ, Bool, true, false, IsTrue, List, [], ◌∷◌, ◌++◌, ◌≡◌, ◌-◌, Option, Some, None, Result, Ok, Err, if◌then◌else◌}
use Rattle.pir_io.specs.declared.fault.IoFault.{IoFault}
use Rattle.pir_io.specs.declared.fault.IoFault.TheVariants.{Failed, NoMemory}
use Rattle.pir_io.specs.Faults.{HasCause}
use Rattle.pir_io.specs.Link.{LinkSeen, NetLog, Session, Start, connecting, Log, no_log, net_log, wrapped_log}

-- the log of a net in what a link keeps; of a link that wraps another, the other's
abbrev pub net_log_in : Log → NetLog
net_log_in no_log = record { past = []; addr = None; start = None; faults_at_start = 0 }
net_log_in (net_log log) = log
net_log_in (wrapped_log inner wrapping) = net_log_in inner

-- the log of a net
abbrev pub log_of : LinkSeen → NetLog
log_of net = net_log_in net.log

abbrev pub start_of : Option Start → Start
start_of (Some start) = start
start_of None = connecting

-- the session at hand as it stands in the list of past ones, where there is one
abbrev pub at_hand : LinkSeen → List Session
at_hand net = if net.is_open then record { took = net.took; wrote = net.wrote; ended = net.ended; start = start_of (log_of net).start; faults = net.faults - (log_of net).faults_at_start } ∷ [] else []

-- what the log of a net becomes by a call that starts a session, by its answer: where memory was wanting, nothing changes
abbrev pub log_after : LinkSeen → ℕ → Start → Option (List ℕ) → Result (Unit {0}) IoFault → NetLog
log_after net faults start addr (Ok _) = record { past = (log_of net).past ++ at_hand net; addr = addr; start = Some start; faults_at_start = faults }
log_after net faults start addr (Err Failed) = record { past = (log_of net).past ++ at_hand net; addr = addr; start = None; faults_at_start = faults }
log_after net faults start addr (Err NoMemory) = log_of net

-- no byte was read or written, and neither side has ended
pub record IsFresh (net : LinkSeen) : Type 0 where
  pub took : net.took ≡ []
  pub wrote : net.wrote ≡ []
  pub ended : net.ended ≡ false
  pub closed : net.closed ≡ false

-- the bytes and the ends of the session at hand are as they were
pub record SameSession (old new : LinkSeen) : Type 0 where
  pub took : new.took ≡ old.took
  pub wrote : new.wrote ≡ old.wrote
  pub ended : new.ended ≡ old.ended
  pub closed : new.closed ≡ old.closed

-- what a session's bytes become by a call that starts one
abbrev pub SessionAfter : LinkSeen → LinkSeen → Result (Unit {0}) IoFault → Type 0
SessionAfter old new (Ok _) = IsFresh new
SessionAfter old new (Err Failed) = IsFresh new
SessionAfter old new (Err NoMemory) = SameSession old new

-- whether a session is at hand after such a call
abbrev pub open_after : LinkSeen → Result (Unit {0}) IoFault → Bool
open_after net (Ok _) = true
open_after net (Err Failed) = false
open_after net (Err NoMemory) = net.is_open

-- What `connect` and `accept` do: the session at hand, where there is one, goes to the past ones; a fresh one
-- is at hand where the call succeeds, and none where it fails. `addr` is what the log has as its address then. Where
-- memory was wanting, all that is seen is as it was.
pub record Begins (old new : LinkSeen) (start : Start) (addr : Option (List ℕ)) (result : Result (Unit {0}) IoFault) : Type 0 where
  pub tells : new.tells ≡ old.tells
  pub is_open : new.is_open ≡ open_after old result
  pub cause : HasCause old.faults new.faults result
  pub session : IsTrue old.tells → SessionAfter old new result
  pub log : IsTrue old.tells → log_of new ≡ log_after old new.faults start addr result
  pub no_memory : result ≡ Err NoMemory → new ≡ old

abbrev pub listened : LinkSeen → Option (List ℕ) → Result (Unit {0}) IoFault → NetLog
listened net addr (Ok _) = record (log_of net) { addr = addr }
listened net addr (Err Failed) = record (log_of net) { addr = addr }
listened net addr (Err NoMemory) = log_of net

-- what `listen` does: its argument is the address, and nothing else changes; where memory was wanting, all that is
-- seen is as it was
pub record Listens (old new : LinkSeen) (addr : List ℕ) (result : Result (Unit {0}) IoFault) : Type 0 where
  pub tells : new.tells ≡ old.tells
  pub is_open : new.is_open ≡ old.is_open
  pub cause : HasCause old.faults new.faults result
  pub session : IsTrue old.tells → SameSession old new
  pub log : IsTrue old.tells → log_of new ≡ listened old (Some addr) result
  pub no_memory : result ≡ Err NoMemory → new ≡ old
