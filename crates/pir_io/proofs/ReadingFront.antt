-- How a file's front is read in pieces.
use Rattle.std.proofs.Common.{ℕ, List, IsTrue, ◌≡◌, ◌≤◌, length, take}
use Rattle.pir_io.specs.Files.{FilesSeen, content_of}
use Rattle.pir_io.specs.Reading.{OnlyRead}

-- these bytes are the front of the file, no more of it than the limit
pub record HasRead (old now : FilesSeen) (name : List ℕ) (limit : ℕ) (bytes : List ℕ) : Type 0 where
  pub only : OnlyRead old now
  pub within : length bytes ≤ limit
  pub front : IsTrue old.tells → bytes ≡ take (length bytes) (content_of old name)
