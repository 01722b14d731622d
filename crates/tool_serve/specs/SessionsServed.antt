-- What becomes of a net and of a sink while sessions are served one after the other.
use Rattle.std.specs.Prelude.{ℕ, List, [], ◌∷◌, ◌++◌, ◌+◌, ◌<◌, ◌≤◌, ◌≡◌, ◌⊎◌, IsTrue, length, take, Result, Err, IfOk, OnErr}
use Rattle.pir_io.specs.declared.fault.IoFault.{IoFault}
use Rattle.pir_io.specs.declared.fault.IoFault.TheVariants as io
use Rattle.pir_io.specs.Faults.{Rose}
use Rattle.pir_io.specs.Sink.{SinkSeen}
use Rattle.pir_io.specs.Link.{LinkSeen, Session}
use Rattle.pir_io.specs.Net.{log_of, at_hand}
use Rattle.spiral_model.specs.Databases.{RecordTable}
use Rattle.pir_server.specs.declared.session.SessionEnd.{SessionEnd}
use Rattle.tool_base.specs.declared.status.Status.{Status}
use Rattle.tool_base.specs.declared.status.Status.TheVariants as status
use Rattle.tool_base.specs.Texts.{link_fault_line}
use Rattle.tool_base.specs.Puts.{GotLine, GotPrefix, Refused}
use Rattle.tool_serve.specs.Serve.{session_lines, last_status, EndsWith, Told, AllTold, faults_in, MoreFaults}

-- the sessions of a net: those before, and the one at hand where there is one
abbrev pub sessions_of : LinkSeen → List Session
sessions_of net = (log_of net).past ++ at_hand net

-- what is told of a session that was started, served and closed behind those before it
pub record ToldNext (table : RecordTable) (old new : LinkSeen) (end : SessionEnd) (session : Session) : Type 0 where
  pub sessions : sessions_of new ≡ sessions_of old ++ session ∷ []
  pub told : Told table new.faults session end
  pub counted : old.faults + session.faults ≤ new.faults

-- One more session was served; or none was started, since the call failed or memory was wanting.
pub record ServesNext (table : RecordTable) (old new : LinkSeen) (result : Result SessionEnd IoFault) : Type 0 where
  pub tells : new.tells ≡ old.tells
  pub later : old.faults ≤ new.faults
  pub failed : result ≡ Err io.Failed → Rose old.faults new.faults
  pub addr : IsTrue old.tells → (log_of new).addr ≡ (log_of old).addr
  pub ok : IsTrue old.tells → IfOk result (λ end. (session : Session) × ToldNext table old new end session)
  pub err : IsTrue old.tells → OnErr result (sessions_of new ≡ sessions_of old)

-- what is told of the sessions that were served so far
pub record ToldSoFar (table : RecordTable) (net now : LinkSeen) (ends : List SessionEnd) (sessions : List Session) : Type 0 where
  pub addr : (log_of now).addr ≡ (log_of net).addr
  pub sessions_are : sessions_of now ≡ sessions_of net ++ sessions
  pub told : AllTold table now.faults sessions ends
  pub counted : net.faults + faults_in sessions ≤ now.faults

-- sessions that ended so were served, and all their lines put
pub record ServedSoFar (table : RecordTable) (net now : LinkSeen) (so sn : SinkSeen) (ends : List SessionEnd) : Type 0 where
  pub tells : now.tells ≡ net.tells
  pub later : net.faults ≤ now.faults
  pub put_later : so.faults ≤ sn.faults
  pub lines : GotLine so sn (session_lines 1 ends)
  pub told : IsTrue net.tells → (sessions : List Session) × ToldSoFar table net now ends sessions

-- How serving ends that had so many sessions to serve: behind all of them; at a session that couldn't be started; or for want of memory or a failed put.
abbrev pub Stops : ℕ → LinkSeen → LinkSeen → SinkSeen → SinkSeen → List SessionEnd → Status → Type 0
Stops count net now so sn ends ended =
    ((length ends ≡ count) × (mid : SinkSeen) × GotLine so mid (session_lines 1 ends) × EndsWith (last_status ends) mid sn ended)
    ⊎ (((length ends < count) × Rose net.faults now.faults × (mid : SinkSeen) × GotLine so mid (session_lines 1 ends)
    × Refused mid sn status.LinkFault link_fault_line ended)
    ⊎ (((ended ≡ status.NoMemory) × (sn.tells ≡ so.tells) × (IsTrue so.tells → (k : ℕ) × (sn.bytes ≡ so.bytes ++ take k (session_lines 1 ends))))
    ⊎ ((ended ≡ status.SinkFault) × GotPrefix so sn (session_lines 1 ends))))

-- Sessions are served one after the other, at most so many, over a net that listens.
pub record ServedAll (table : RecordTable) (count : ℕ) (net now : LinkSeen) (so sn : SinkSeen) (ended : Status) (ends : List SessionEnd) : Type 0 where
  pub tells : now.tells ≡ net.tells
  pub most : length ends ≤ count
  pub stops : Stops count net now so sn ends ended
  pub told :
      IsTrue net.tells → (sessions : List Session) × ToldSoFar table net now ends sessions
      × (length ends < count → ended ≡ status.LinkFault → MoreFaults net now sessions)

abbrev pub ServesAll : RecordTable → ℕ → LinkSeen → LinkSeen → SinkSeen → SinkSeen → Status → Type 0
ServesAll table count net now so sn ended = (ends : List SessionEnd) × ServedAll table count net now so sn ended ends
