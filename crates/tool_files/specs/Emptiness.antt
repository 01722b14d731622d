-- Whether a file is empty.
use Rattle.std.specs.Prelude.{Bool, true, false, List, ℕ, [], ◌≡◌, ◌≢◌, IsTrue, Result, Ok, Err}
use Rattle.pir_io.specs.declared.fault.IoFault.{IoFault}
use Rattle.pir_io.specs.declared.fault.IoFault.TheVariants.{Failed}
use Rattle.pir_io.specs.Files.{FilesSeen, content_of}
use Rattle.pir_io.specs.Reading.{OnlyRead, FailedReading}

pub record FindsEmpty (old new : FilesSeen) (name : List ℕ) (result : Result Bool IoFault) : Type 0 where
  pub only : OnlyRead old new
  pub failed : result ≡ Err Failed → FailedReading old new name
  pub empty : IsTrue old.tells → result ≡ Ok true → content_of old name ≡ []
  pub some : IsTrue old.tells → result ≡ Ok false → content_of old name ≢ []
