-- What the command `prepare SET LENGTH INPUT DB` does.
use Rattle.std.specs.Prelude.{ℕ, List, ◌≡◌, ◌+◌, ◌*◌, ◌%◌, ◌≤◌, length, take}
use Rattle.spiral_sets.specs.declared.param_set.ParamSet.{ParamSet}
use Rattle.spiral_model.specs.Sets.{max_records, capacity}
use Rattle.spiral_model.specs.Databases.{RecordTable, IsTable, record_count}
use Rattle.spiral_frames.specs.Frames.{frame_of, database_message}
use Rattle.record_store.specs.Preparing.{MayBeLong}
use Rattle.tool_base.specs.declared.status.Status.TheVariants.{BadRecords}
use Rattle.tool_base.specs.Texts.{bad_records_line, database_line}
use Rattle.tool_base.specs.Words.{PrepareWords}
use Rattle.tool_base.specs.Outputs.{one}
use Rattle.tool_base.specs.Steps.{Steps, with_set, needs, read, never, knowing, write}

-- the first bytes of a file, so many at most
abbrev pub IsFront : ℕ → List ℕ → List ℕ → Type 0
IsFront most bytes front = front ≡ take most bytes

-- these bytes as records of LENGTH bytes
abbrev pub table_of : PrepareWords → ParamSet → List ℕ → RecordTable
table_of p set bytes = record { set = set; record_length = p.record_length; bytes = bytes }

-- Makes a database of these bytes, and writes its frame. The codes of a refusal are those of a frame's for the same reasons.
abbrev pub prepares_from : PrepareWords → ParamSet → List ℕ → Steps
prepares_from p set bytes =
    needs (length bytes ≤ max_records set * p.record_length) BadRecords (bad_records_line 9 p.record_length (max_records set)) (
    needs (length bytes % p.record_length ≡ 0) BadRecords (bad_records_line 10 p.record_length (length bytes)) (
    knowing (IsTable (table_of p set bytes)) (
    write (one p.db_name (frame_of (database_message (table_of p set bytes))))
    (database_line p.set_name (record_count (table_of p set bytes)) p.record_length))))

-- Makes a database of the records in INPUT, one behind the other. One byte more is read than the set has room for, so that too many
-- are told.
abbrev pub prepares : PrepareWords → Steps
prepares p =
    with_set p.set_name (λ set.
    needs (MayBeLong set p.record_length) BadRecords (bad_records_line 8 p.record_length (capacity set)) (
    read p.input_name (IsFront (max_records set * p.record_length + 1)) never (λ bytes.
    prepares_from p set bytes)))
