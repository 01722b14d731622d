-- What the command `local DB INDEX WORDS TRANSCRIPT OUT WORKERS CUT` does: a whole look-up in one process. Nothing here speaks of WORKERS or CUT:
-- what is written is the same for each.
use Rattle.std.specs.Prelude.{List, ℕ, [], ◌∷◌, ◌++◌, ◌<◌}
use Rattle.spiral_model.specs.Databases.{RecordTable, record_at, record_count}
use Rattle.session_laws.specs.Exchanges.{asking_bytes, answering_bytes}
use Rattle.tool_base.specs.declared.status.Status.TheVariants.{Absent}
use Rattle.tool_base.specs.Texts.{absent_line, record_line}
use Rattle.tool_base.specs.Words.{LocalWords}
use Rattle.tool_base.specs.Outputs.{Output}
use Rattle.tool_base.specs.Steps.{Steps, read, work_out, needs, write, refuse_frame}
use Rattle.tool_files.specs.Inputs.{SpellsDatabase}
use Rattle.tool_files.specs.Answer.{IsRefused}
use Rattle.tool_files.specs.Ask.{quiet}
use Rattle.tool_files.specs.WithWords.{with_words_for}

-- What is written, in order: TRANSCRIPT gets all that was sent and then the answer, OUT the record that was asked for.
abbrev pub local_outputs : LocalWords → RecordTable → List ℕ → List Output
local_outputs l table words =
    record { name = l.transcript_name; bytes = asking_bytes table.set words l.index ++ answering_bytes table words l.index }
    ∷ record { name = l.out_name; bytes = record_at table l.index } ∷ []

-- With words for an index: the record is written, where the query's noise is small enough and there is a record.
abbrev pub local_rest : LocalWords → RecordTable → List ℕ → Steps
local_rest l table words =
    work_out (
    quiet table.set words l.index (
    needs (l.index < record_count table) Absent (absent_line l.index (record_count table)) (
    write (local_outputs l table words) (record_line table.record_length))))

-- Looks the record up that stands at the index, and writes it.
abbrev pub locals : LocalWords → Steps
locals l = read l.db_name SpellsDatabase (refuse_frame 1 l.db_name IsRefused) (λ table. with_words_for table.set l.index l.source (local_rest l table))
