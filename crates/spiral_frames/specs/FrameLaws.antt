-- Laws of frames, each the contract of a public function.
use Rattle.std.specs.Prelude.{ℕ, List, ◌≡◌, Some, None}
use Rattle.frame_headers.specs.declared.frame_error.FrameError.{FrameError}
use Rattle.frame_headers.specs.declared.kind.FrameKind.{FrameKind}
use Rattle.frame_headers.specs.declared.kind.FrameKind.TheVariants.{Reply, State, Database}
use Rattle.spiral_model.specs.Replies.{QueryState, SwitchedReply}
use Rattle.spiral_model.specs.Databases.{RecordTable}
use Rattle.spiral_frames.specs.Frames.{Message, IsOne, set_of_message, state_message, reply_message, database_message}
use Rattle.spiral_frames.specs.FrameChecks.{database_refusal}

-- Messages of one kind whose frames are the same bytes are of one set.
abbrev pub FramesAreOfOneSet : Type 0
FramesAreOfOneSet = (kind : FrameKind) (x : List ℕ) (m n : Message) → IsOne kind x m → IsOne kind x n → set_of_message m ≡ set_of_message n

-- A frame is that of one state only, and of one reply.
abbrev pub StatesOfFrames : Type 0
StatesOfFrames = (x : List ℕ) (s t : QueryState) → IsOne State x (state_message s) → IsOne State x (state_message t) → s ≡ t

abbrev pub RepliesOfFrames : Type 0
RepliesOfFrames = (x : List ℕ) (r u : SwitchedReply) → IsOne Reply x (reply_message r) → IsOne Reply x (reply_message u) → r ≡ u

-- The frame of a database is not refused.
abbrev pub SpelledIsNotRefused : Type 0
SpelledIsNotRefused = (x : List ℕ) (table : RecordTable) → IsOne Database x (database_message table) → database_refusal x ≡ None

-- What is refused is the frame of no database.
abbrev pub RefusedIsNotSpelled : Type 0
RefusedIsNotSpelled = (x : List ℕ) (error : FrameError) → database_refusal x ≡ Some error → (table : RecordTable) → IsOne Database x (database_message table) → ⊥
