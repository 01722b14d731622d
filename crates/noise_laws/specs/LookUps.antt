-- A look-up: what a client sends for a record, and the reply to it.
use Rattle.std.specs.Prelude.{ℕ, List, ◌<◌}
use Rattle.spiral_model.specs.Databases.{RecordTable, IsTable, record_count}
use Rattle.spiral_model.specs.Replies.{SwitchedReply}
use Rattle.spiral_model.specs.Answering.{ready_of, answer_of}
use Rattle.spiral_model.specs.Dealing.{query_of, dealt_keys}
use Rattle.spiral_model.specs.Noise.{Fits}

-- A look-up that a client sends: a database that has a record at the index, and words whose query has so little noise that Fits holds.
pub record LookUp (table : RecordTable) (words : List ℕ) (index : ℕ) : Type 0 where
  pub is_table : IsTable table
  pub present : index < record_count table
  pub fits : Fits table.set words index

-- The reply to the query that words deal for an index.
abbrev pub reply_to : RecordTable → List ℕ → ℕ → SwitchedReply
reply_to table words index =
    answer_of table (dealt_keys table.set words) (ready_of table.set (dealt_keys table.set words) (query_of table.set words index))
