-- How a command ends whose input gave nothing to go on with.
use Rattle.std.specs.Prelude.{ℕ, ◌≡◌}
use Rattle.pir_io.specs.Sink.{SinkSeen}
use Rattle.tool_base.specs.declared.status.Status.{Status}
use Rattle.tool_base.specs.declared.status.Status.TheVariants.{NoMemory, FileFault, BadFrame}
use Rattle.tool_base.specs.Texts.{file_fault_line, bad_frame_line}
use Rattle.tool_base.specs.Puts.{GotNothing, Refused}
use Rattle.tool_files.specs.declared.input.InputError.{InputError}
use Rattle.tool_files.specs.declared.input.InputError.TheVariants as input
use Rattle.record_store.specs.declared.storing.DbError.{DbError}
use Rattle.record_store.specs.declared.storing.DbError.TheVariants as db
use Rattle.spiral_frames.specs.Refusals.{code_of, place_of}

-- the input of this number, counted from 1, gave no message
abbrev pub InputRefused : ℕ → SinkSeen → SinkSeen → InputError → Status → Type 0
InputRefused k old new input.File status = Refused old new FileFault file_fault_line status
InputRefused k old new (input.Frame error) status = Refused old new BadFrame (bad_frame_line k (code_of error) (place_of error)) status
InputRefused k old new input.NoMemory status = (status ≡ NoMemory) × GotNothing old new

-- the first input, a database, couldn't be read
abbrev pub DatabaseRefused : SinkSeen → SinkSeen → DbError → Status → Type 0
DatabaseRefused old new (db.Frame error) status = Refused old new BadFrame (bad_frame_line 1 (code_of error) (place_of error)) status
DatabaseRefused old new db.File status = Refused old new FileFault file_fault_line status
DatabaseRefused old new db.NoMemory status = (status ≡ NoMemory) × GotNothing old new
