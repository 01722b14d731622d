-- A sink for bytes, such as standard output.
use Rattle.std.specs.Prelude.{ℕ, Bool, IsTrue, List, ◌++◌, ◌≡◌, take, Result, Err, OnOk}
use Rattle.pir_io.specs.declared.fault.IoFault.{IoFault}
use Rattle.pir_io.specs.declared.fault.IoFault.TheVariants.{Failed, NoMemory}
use Rattle.pir_io.specs.Faults.{HasCause}

-- What is seen of a sink: whether it tells its bytes, the bytes put so far, and how many faults were counted.
pub record SinkSeen : Type 0 where
  pub tells : Bool
  pub bytes : List ℕ
  pub faults : ℕ

-- what `put` does: the bytes stand at the end; a failed one has added a prefix of them
pub record Puts (old new : SinkSeen) (bytes : List ℕ) (result : Result (Unit {0}) IoFault) : Type 0 where
  pub tells : new.tells ≡ old.tells
  pub cause : HasCause old.faults new.faults result
  pub ok : IsTrue old.tells → OnOk result (new.bytes ≡ old.bytes ++ bytes)
  pub failed : IsTrue old.tells → result ≡ Err Failed → (k : ℕ) × (new.bytes ≡ old.bytes ++ take k bytes)
  pub no_memory : IsTrue old.tells → result ≡ Err NoMemory → new.bytes ≡ old.bytes
