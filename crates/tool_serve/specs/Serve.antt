-- What the command `serve ADDR DB SESSIONS WORKERS` does: over a net, before it and after. Nothing here speaks of WORKERS: what is written is the same for each
-- number of them.
use Rattle.std.specs.Prelude.{ℕ, List, [], ◌∷◌, ◌++◌, ◌+◌, ◌-◌, ◌^◌, IsTrue, ◌≡◌, ◌⊎◌, ◌<◌, ◌≤◌, length, take, codes, decimal, Option, Some, None}
use Rattle.pir_io.specs.Faults.{Rose}
use Rattle.pir_io.specs.Files.{FilesSeen, content_of}
use Rattle.pir_io.specs.Reading.{OnlyRead}
use Rattle.pir_io.specs.Sink.{SinkSeen}
use Rattle.pir_io.specs.Link.{LinkSeen, Session, accepting}
use Rattle.pir_io.specs.Net.{log_of, at_hand}
use Rattle.spiral_model.specs.Databases.{RecordTable, IsTable}
use Rattle.pir_server.specs.declared.session.EndCause.{EndCause}
use Rattle.pir_server.specs.declared.session.EndCause.TheVariants as cause
use Rattle.pir_server.specs.declared.session.SessionEnd.{SessionEnd}
use Rattle.pir_server.specs.Sessions.{EndsBy}
use Rattle.tool_base.specs.declared.status.Status.{Status}
use Rattle.tool_base.specs.declared.status.Status.TheVariants as status
use Rattle.tool_base.specs.Texts.{link_fault_line, input_limit_line}
use Rattle.tool_base.specs.Words.{ServeWords}
use Rattle.tool_base.specs.Puts.{GotNothing, GotLine, GotPrefix, Refused}
use Rattle.tool_base.specs.Steps.{Steps, at_files, read, never, refuse_frame}
use Rattle.tool_files.specs.Inputs.{SpellsDatabase}
use Rattle.tool_files.specs.Answer.{IsRefused}

-- a session takes at most so many bytes: 64 GiB
abbrev pub session_limit : ℕ
session_limit = 2 ^ 36

-- ---- the line of each session

-- how it ended
abbrev pub cause_text : EndCause → List ℕ
cause_text cause.Done = codes "done"
cause_text (cause.Refused code at) = codes "refused " ++ (decimal code ++ (codes " at " ++ decimal at))
cause_text cause.LinkFault = codes "link fault"
cause_text cause.Limit = codes "limit"
cause_text cause.NoMemory = codes "no memory"

-- the line of session k, counted from 1
abbrev pub session_line : ℕ → SessionEnd → List ℕ
session_line k end = codes "session " ++ (decimal k ++ (codes ": " ++ (decimal end.answered ++ (codes " answered, " ++ (cause_text end.cause ++ 10 ∷ [])))))

-- the lines of sessions, the first of which has this number
unfoldable pub session_lines : ℕ → List SessionEnd → List ℕ
session_lines k [] = []
session_lines k (end ∷ ends) = session_line k end ++ session_lines (k + 1) ends

-- ---- the last status

-- a session that ended by want of memory, by a fault or at the limit has a status
abbrev pub status_of_cause : EndCause → Option Status
status_of_cause cause.Done = None
status_of_cause (cause.Refused code at) = None
status_of_cause cause.LinkFault = Some status.LinkFault
status_of_cause cause.Limit = Some status.InputLimit
status_of_cause cause.NoMemory = Some status.NoMemory

abbrev pub status_or : Option Status → Status → Status
status_or (Some first) later = first
status_or None later = later

-- that of the first such session; Done, where there is none
unfoldable pub last_status : List SessionEnd → Status
last_status [] = status.Done
last_status (end ∷ ends) = status_or (status_of_cause end.cause) (last_status ends)

-- a fault and the limit have a line
abbrev pub status_line : Status → Option (List ℕ)
status_line status.LinkFault = Some link_fault_line
status_line status.InputLimit = Some input_limit_line
status_line other = None

-- The program ends with it, and its line where it has one.
abbrev pub EndsWith : Status → SinkSeen → SinkSeen → Status → Type 0
EndsWith last old new ended =
    ((status_line last ≡ None) × (ended ≡ last) × GotNothing old new)
    ⊎ ((line : List ℕ) × (status_line last ≡ Some line) × Refused old new last line ended)

-- ---- what is told of the sessions

-- A session was started by accepting, and ended as is said for the bytes that it read and wrote; by a fault only where one was counted in it, or
-- the count stands at its end.
pub record Told (table : RecordTable) (faults : ℕ) (session : Session) (end : SessionEnd) : Type 0 where
  pub accepted : session.start ≡ accepting
  pub taken : end.taken ≡ length session.took
  pub within : end.taken ≤ session_limit
  pub ends : EndsBy table session_limit session.ended session.took session.wrote end.answered end.cause
  pub fault : end.cause ≡ cause.LinkFault → (0 < session.faults) ⊎ (2 ^ 64 - 1 ≤ faults)

-- sessions and how they ended, one by one
abbrev pub AllTold : RecordTable → ℕ → List Session → List SessionEnd → Type 0
AllTold table faults [] [] = Unit {0}
AllTold table faults (session ∷ sessions) (end ∷ ends) = Told table faults session end × AllTold table faults sessions ends
AllTold table faults [] (end ∷ ends) = ⊥
AllTold table faults (session ∷ sessions) [] = ⊥

-- the faults counted in sessions
unfoldable pub faults_in : List Session → ℕ
faults_in [] = 0
faults_in (session ∷ sessions) = session.faults + faults_in sessions

-- The sessions of a net that listened at an address are those before it and these.
pub record Had (table : RecordTable) (addr : List ℕ) (net net_after : LinkSeen) (sessions : List Session) (ends : List SessionEnd) : Type 0 where
  pub addr_is : (log_of net_after).addr ≡ Some addr
  pub past : (log_of net_after).past ++ at_hand net_after ≡ (log_of net).past ++ sessions
  pub told : AllTold table net_after.faults sessions ends

-- the count of faults rose by more than is counted in the sessions, or it stands at its end
abbrev pub MoreFaults : LinkSeen → LinkSeen → List Session → Type 0
MoreFaults net net_after sessions = (net.faults + faults_in sessions < net_after.faults) ⊎ (net_after.faults ≡ 2 ^ 64 - 1)

-- ---- the command

-- All sessions were served; or listening or the next session failed; or memory was wanting for these or for a line, or a line couldn't be put:
-- the lines that stand before are there, or a prefix of them.
abbrev pub stops : ServeWords → LinkSeen → LinkSeen → List SessionEnd → Steps
stops v net net_after ends s ended =
    ((length ends ≡ v.sessions) × (mid : SinkSeen) × GotLine s.sink mid (session_lines 1 ends) × EndsWith (last_status ends) mid s.sink_after ended)
    ⊎ (((length ends < v.sessions) × Rose net.faults net_after.faults × (mid : SinkSeen) × GotLine s.sink mid (session_lines 1 ends)
    × Refused mid s.sink_after status.LinkFault link_fault_line ended)
    ⊎ (((ended ≡ status.NoMemory) × (s.sink_after.tells ≡ s.sink.tells)
    × (IsTrue s.sink.tells → (k : ℕ) × (s.sink_after.bytes ≡ s.sink.bytes ++ take k (session_lines 1 ends))))
    ⊎ ((ended ≡ status.SinkFault) × GotPrefix s.sink s.sink_after (session_lines 1 ends))))

-- Listens at the address, and serves one session after the other from the database. Whether the net tells its bytes stays.
abbrev pub serving : ServeWords → RecordTable → LinkSeen → LinkSeen → Steps
serving v table net net_after s ended =
    (s.files_after ≡ s.files) × (net_after.tells ≡ net.tells) × (ends : List SessionEnd) × (length ends ≤ v.sessions) × stops v net net_after ends s ended
    × (IsTrue net.tells → (sessions : List Session) × Had table v.addr net net_after sessions ends
    × (length ends < v.sessions → ended ≡ status.LinkFault → MoreFaults net net_after sessions))

-- Serves so many sessions from a database. It ends with the net as it was: DB couldn't be read, or is refused, or memory was wanting for the database or for
-- listening; or it goes on with its database.
abbrev pub serves : ServeWords → LinkSeen → LinkSeen → Steps
serves v net net_after s ended =
    ((net_after ≡ net) × read v.db_name SpellsDatabase (refuse_frame 1 v.db_name IsRefused) (λ _. never) s ended)
    ⊎ ((table : RecordTable) × (now : FilesSeen) × OnlyRead s.files now × IsTable table
    × (IsTrue s.files.tells → SpellsDatabase (content_of s.files v.db_name) table) × serving v table net net_after (at_files now s) ended)
