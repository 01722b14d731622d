-- What reading and writing a database do to the files.
use Rattle.std.specs.Prelude.{ℕ, List, IsTrue, ◌≡◌, ◌≤◌, Some, None, Result, Ok, Err, OnOk, OnErr}
use Rattle.pir_io.specs.declared.fault.IoFault.{IoFault}
use Rattle.pir_io.specs.declared.fault.IoFault.TheVariants.{Failed, NoMemory as out_of_memory}
use Rattle.pir_io.specs.Files.{FilesSeen, content_of, KeepsOthers}
use Rattle.pir_io.specs.Reading.{OnlyRead, FailedReading, FailedWriting, HoldsPrefix}
use Rattle.frame_headers.specs.declared.kind.FrameKind.TheVariants.{Database}
use Rattle.spiral_model.specs.Databases.{RecordTable}
use Rattle.spiral_frames.specs.Frames.{IsOne, frame_of, database_message}
use Rattle.spiral_frames.specs.FrameChecks.{database_refusal}
use Rattle.record_store.specs.declared.storing.DbError.{DbError}
use Rattle.record_store.specs.declared.storing.DbError.TheVariants.{Frame, File, NoMemory}

-- a fault of the files, as an error of a database
abbrev pub error_of : IoFault → DbError
error_of Failed = File
error_of out_of_memory = NoMemory

-- Each answer of a read, and where it comes.
abbrev pub ReadCause : FilesSeen → FilesSeen → List ℕ → Result RecordTable DbError → Type 0
ReadCause old new name (Ok db) =
    IsTrue old.tells → IsOne Database (content_of old name) (database_message db) × (database_refusal (content_of old name) ≡ None)
ReadCause old new name (Err (Frame error)) = IsTrue old.tells → database_refusal (content_of old name) ≡ Some error
ReadCause old new name (Err File) = FailedReading old new name
ReadCause old new name (Err NoMemory) = Unit {0}

-- What is refused as no database's frame is the frame of none.
abbrev pub NoneSpelled : FilesSeen → List ℕ → Result RecordTable DbError → Type 0
NoneSpelled old name (Ok _) = Unit {0}
NoneSpelled old name (Err (Frame _)) = IsTrue old.tells → (db : RecordTable) → IsOne Database (content_of old name) (database_message db) → ⊥
NoneSpelled old name (Err File) = Unit {0}
NoneSpelled old name (Err NoMemory) = Unit {0}

-- A name is read as one database; nothing is written, whatever the answer.
pub record ReadsDatabase (old new : FilesSeen) (name : List ℕ) (result : Result RecordTable DbError) : Type 0 where
  pub only : OnlyRead old new
  pub cause : ReadCause old new name result
  pub none : NoneSpelled old name result

-- Each error of a write, and where it comes: no frame is refused.
abbrev pub WriteCause : FilesSeen → FilesSeen → List ℕ → Result (Unit {0}) DbError → Type 0
WriteCause old new name (Ok _) = Unit {0}
WriteCause old new name (Err (Frame _)) = ⊥
WriteCause old new name (Err File) = FailedWriting old new name
WriteCause old new name (Err NoMemory) = Unit {0}

-- A name is given exactly the frame of a database; after an error it is as it was or holds a prefix of the frame.
pub record WritesDatabase (old new : FilesSeen) (name : List ℕ) (db : RecordTable) (result : Result (Unit {0}) DbError) : Type 0 where
  pub tells : new.tells ≡ old.tells
  pub later : old.faults ≤ new.faults
  pub ok : IsTrue old.tells → OnOk result (new.content name ≡ Some (frame_of (database_message db)))
  pub err : IsTrue old.tells → OnErr result (HoldsPrefix old new name (frame_of (database_message db)))
  pub others : IsTrue old.tells → KeepsOthers old new name
  pub cause : WriteCause old new name result
