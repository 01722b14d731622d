-- What the program does with `open` on the files of a look-up: they are never refused, and OUT gets the record that was asked for.
use Rattle.std.specs.Prelude.{ℕ, List, IsTrue, ◌≡◌, length}
use Rattle.pir_io.specs.Files.{FilesSeen, content_of}
use Rattle.spiral_model.specs.Databases.{RecordTable, record_at}
use Rattle.spiral_model.specs.Dealing.{state_of, query_body_of, dealt_keys}
use Rattle.spiral_frames.specs.Frames.{frame_of, state_message}
use Rattle.noise_laws.specs.LookUps.{LookUp}
use Rattle.tool_base.specs.declared.status.Status.{Status}
use Rattle.tool_base.specs.Statuses.{number_of_status}
use Rattle.tool_base.specs.Texts.{record_line}
use Rattle.tool_base.specs.Words.{OpenWords, the_open, words_of}
use Rattle.tool_base.specs.Outputs.{one}
use Rattle.tool_base.specs.Steps.{Scene, Steps, read, never, write}
use Rattle.frame_streams.specs.Serving.{reply_frame}

-- whatever the bytes are
abbrev pub Anything : List ℕ → Unit {0} → Type 0
Anything bytes _ = Unit {0}

-- Reads both inputs and writes these bytes as the record; it ends otherwise only where a file can't be read or written, or memory is
-- wanting.
abbrev pub retrieves : OpenWords → List ℕ → Steps
retrieves o bytes =
    read o.state_name Anything never (λ _. read o.reply_name Anything never (λ _. write (one o.out_name bytes) (record_line (length bytes))))

-- The files hold what a look-up made: STATE as `ask` writes it, REPLY as `answer` does.
pub record HoldLookUp (o : OpenWords) (table : RecordTable) (words : List ℕ) (index : ℕ) (files : FilesSeen) : Type 0 where
  pub look_up : LookUp table words index
  pub tell : IsTrue files.tells
  pub state : content_of files o.state_name ≡ frame_of (state_message (state_of table.set words index))
  pub reply : content_of files o.reply_name ≡ reply_frame table (dealt_keys table.set words) (query_body_of table.set words index)

-- Run with the words of `open` on the files of a look-up, the program retrieves the record that was asked for.
abbrev pub Retrieves : List (List ℕ) → Scene → ℕ → Type 0
Retrieves line s number =
    (o : OpenWords) (table : RecordTable) (words : List ℕ) (index : ℕ) → line ≡ words_of (record { name = the_open; said = o })
    → HoldLookUp o table words index s.files
    → (status : Status) × (number ≡ number_of_status status) × retrieves o (record_at table index) s status
