-- What the bytes of an input are read as.
use Rattle.std.specs.Prelude.{ℕ, List, [], ◌≡◌, false, Option, Some, None}
use Rattle.spiral_sets.specs.declared.param_set.ParamSet.{ParamSet}
use Rattle.spiral_model.specs.Sets.{has_keys}
use Rattle.spiral_model.specs.Replies.{QueryState, SwitchedReply}
use Rattle.spiral_model.specs.Bodies.{CipherBody}
use Rattle.spiral_model.specs.Databases.{RecordTable}
use Rattle.frame_headers.specs.declared.kind.FrameKind.TheVariants.{Setup, Query, Reply, Refuse, State, Database}
use Rattle.spiral_frames.specs.Frames.{IsOne, setup_message, query_message, state_message, reply_message, refuse_message, database_message}
use Rattle.tool_files.specs.declared.peer_answer.PeerAnswer.{PeerAnswer}
use Rattle.tool_files.specs.declared.peer_answer.PeerAnswer.TheVariants as peer

-- ---- the kinds of frames that an input may be, as bits: bit k is kind k

abbrev pub setup_kinds : ℕ
setup_kinds = 2

abbrev pub query_kinds : ℕ
query_kinds = 4

-- a reply or a refusal
abbrev pub answer_kinds : ℕ
answer_kinds = 24

abbrev pub state_kinds : ℕ
state_kinds = 32

-- ---- what the bytes are

-- one whole Database frame, of this database
abbrev pub SpellsDatabase : List ℕ → RecordTable → Type 0
SpellsDatabase bytes table = IsOne Database bytes (database_message table)

-- one whole Setup frame, of these keys
abbrev pub SpellsSetup : List ℕ → CipherBody → Type 0
SpellsSetup bytes keys = IsOne Setup bytes (setup_message keys)

-- What SETUP holds, for a database of a set: one whole Setup frame; or nothing, where the set has no keys.
abbrev pub SpellsKeys : ParamSet → List ℕ → Option CipherBody → Type 0
SpellsKeys set bytes (Some keys) = SpellsSetup bytes keys
SpellsKeys set bytes None = (has_keys set ≡ false) × (bytes ≡ [])

-- one whole Query frame, of this query
abbrev pub SpellsQuery : List ℕ → CipherBody → Type 0
SpellsQuery bytes query = IsOne Query bytes (query_message query)

-- one whole State frame, of this state
abbrev pub SpellsState : List ℕ → QueryState → Type 0
SpellsState bytes state = IsOne State bytes (state_message state)

-- one whole Reply frame, of this reply
abbrev pub SpellsReply : List ℕ → SwitchedReply → Type 0
SpellsReply bytes reply = IsOne Reply bytes (reply_message reply)

-- one whole Refuse frame, of this code and place
abbrev pub SpellsRefuse : List ℕ → ℕ → ℕ → Type 0
SpellsRefuse bytes code place = (set : ParamSet) × IsOne Refuse bytes (refuse_message (record { set = set; code = code; place = place }))

-- what REPLY holds: a reply, or a server's refusal
abbrev pub SpellsAnswer : List ℕ → PeerAnswer → Type 0
SpellsAnswer bytes (peer.Reply reply) = SpellsReply bytes reply
SpellsAnswer bytes (peer.Refuse code place) = SpellsRefuse bytes code place
