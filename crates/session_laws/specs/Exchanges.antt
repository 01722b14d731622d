-- An exchange: what a client sends for an index, what a server of a database writes for it, and what the client reads.
use Rattle.std.specs.Prelude.{ℕ, List, [], ◌∷◌, ◌++◌, ◌≡◌, None}
use Rattle.spiral_sets.specs.declared.param_set.ParamSet.{ParamSet}
use Rattle.spiral_model.specs.Databases.{RecordTable, IsTable}
use Rattle.spiral_model.specs.Dealing.{dealt_keys, query_body_of}
use Rattle.spiral_frames.specs.Frames.{Message, reply_message, query_message, frame_of}
use Rattle.spiral_frames.specs.FrameChecks.{one_refusal}
use Rattle.frame_streams.specs.OneFrames.{IsOneOf}
use Rattle.frame_streams.specs.Serving.{reply_frame, served_input, server_first, serve_bytes}
use Rattle.noise_laws.specs.LookUps.{reply_to}
use Rattle.pir_client.specs.Asks.{setup_frame}

-- What a client sends for an index: its Setup frame, empty where the set has no keys, and its Query frame.
abbrev pub asking_bytes : ParamSet → List ℕ → ℕ → List ℕ
asking_bytes set words index = setup_frame set words ++ frame_of (query_message (query_body_of set words index))

-- The Reply frame of the answer that a database has to that.
abbrev pub answering_bytes : RecordTable → List ℕ → ℕ → List ℕ
answering_bytes table words index = reply_frame table (dealt_keys table.set words) (query_body_of table.set words index)

-- A server of the database writes that frame for it and nothing else: it has one reply, and refuses nothing.
pub record IsAnswered (table : RecordTable) (words : List ℕ) (index : ℕ) : Type 0 where
  pub bytes : serve_bytes table (asking_bytes table.set words index) ≡ answering_bytes table words index
  pub first : server_first table (asking_bytes table.set words index) ≡ None
  pub replies : (served_input table (asking_bytes table.set words index)).replies ≡ answering_bytes table words index ∷ []

-- a client accepts the kinds Reply and Refuse
abbrev pub client_kinds : ℕ
client_kinds = 24

-- The client reads it as one whole frame, that of the reply: it spells nothing else, and isn't refused.
pub record IsRead (table : RecordTable) (words : List ℕ) (index : ℕ) : Type 0 where
  pub one : IsOneOf client_kinds (answering_bytes table words index) (reply_message (reply_to table words index))
  pub only : (m : Message) → IsOneOf client_kinds (answering_bytes table words index) m → m ≡ reply_message (reply_to table words index)
  pub kept : one_refusal client_kinds (answering_bytes table words index) ≡ None

-- ---- the laws

-- Whatever words a client has and whatever index it asks for, what it sends is answered.
abbrev pub QueryIsAnswered : Type 0
QueryIsAnswered = (table : RecordTable) (words : List ℕ) (index : ℕ) → IsTable table → IsAnswered table words index

-- And the answer is read.
abbrev pub AnswerIsRead : Type 0
AnswerIsRead = (table : RecordTable) (words : List ℕ) (index : ℕ) → IsTable table → IsRead table words index
