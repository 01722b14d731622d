-- What reading a file's front and writing a whole file do to the files.
use Rattle.std.specs.Prelude.{ℕ, List, true, false, IsTrue, ◌≡◌, ◌⊎◌, ◌≤◌, ◌<◌, ◌+◌, length, take, Some, Result, Err, OnOk, IfOk, OnErr}
use Rattle.pir_io.specs.declared.fault.IoFault.{IoFault}
use Rattle.pir_io.specs.declared.fault.IoFault.TheVariants.{Failed}
use Rattle.pir_io.specs.Faults.{Rose}
use Rattle.pir_io.specs.Files.{FilesSeen, content_of, Keeps, KeepsOthers}

-- The count rose, and the last failed call read this name.
pub record FailedReading (old new : FilesSeen) (name : List ℕ) : Type 0 where
  pub rose : Rose old.faults new.faults
  pub last : IsTrue old.tells → new.last_failed ≡ Some (record { name = name; wrote = false })

-- The count rose, and the last failed call wrote this name.
pub record FailedWriting (old new : FilesSeen) (name : List ℕ) : Type 0 where
  pub rose : Rose old.faults new.faults
  pub last : IsTrue old.tells → new.last_failed ≡ Some (record { name = name; wrote = true })

-- nothing was written
pub record OnlyRead (old new : FilesSeen) : Type 0 where
  pub tells : new.tells ≡ old.tells
  pub later : old.faults ≤ new.faults
  pub keeps : IsTrue old.tells → Keeps old new

-- the first `limit` bytes of a file were read
pub record ReadsFront {T : Type 0} (old new : FilesSeen) (name : List ℕ) (limit : ℕ) (bytes : T → List ℕ) (result : Result T IoFault) : Type 0 where
  pub only : OnlyRead old new
  pub failed : result ≡ Err Failed → FailedReading old new name
  pub front : IsTrue old.tells → IfOk result (λ x. bytes x ≡ take limit (content_of old name))

-- a name is as it was or holds a prefix of these bytes
abbrev pub HoldsPrefix : FilesSeen → FilesSeen → List ℕ → List ℕ → Type 0
HoldsPrefix old new name bytes = (new.content name ≡ old.content name) ⊎ ((k : ℕ) × (new.content name ≡ Some (take k bytes)))

-- a name was given these bytes
pub record WritesFile {T : Type 0} (old new : FilesSeen) (name bytes : List ℕ) (result : Result T IoFault) : Type 0 where
  pub tells : new.tells ≡ old.tells
  pub later : old.faults ≤ new.faults
  pub ok : IsTrue old.tells → OnOk result (new.content name ≡ Some bytes)
  pub err : IsTrue old.tells → OnErr result (HoldsPrefix old new name bytes)
  pub failed : result ≡ Err Failed → FailedWriting old new name
  pub others : IsTrue old.tells → KeepsOthers old new name

-- Bytes that were read of a file, up to its place `before`, got some more of it: at least one where there was room
-- for some and some are left.
pub record TakesPiece (old new : FilesSeen) (name : List ℕ) (room : ℕ) (before after : List ℕ) (result : Result ℕ IoFault) : Type 0 where
  pub only : OnlyRead old new
  pub failed : result ≡ Err Failed → FailedReading old new name
  pub count : IfOk result (λ n. (n ≤ room) × (length after ≡ length before + n))
  pub front : IsTrue old.tells → before ≡ take (length before) (content_of old name) → OnOk result (after ≡ take (length after) (content_of old name))
  pub some : IsTrue old.tells → IfOk result (λ n. 0 < room → length before < length (content_of old name) → 0 < n)
