-- The files that a command writes, one after the other.
use Rattle.std.specs.Prelude.{ℕ, List, [], ◌∷◌, map, IsTrue, ◌≡◌, ◌≤◌, ◌⊎◌, true, Some, Result, Err, OnOk}
use Rattle.pir_io.specs.declared.fault.IoFault.{IoFault}
use Rattle.pir_io.specs.declared.fault.IoFault.TheVariants.{Failed, NoMemory}
use Rattle.pir_io.specs.Faults.{Rose}
use Rattle.pir_io.specs.Files.{FilesSeen, Keeps, KeepsOthers}
use Rattle.tool_base.specs.declared.output.Output.{Output as Given}
use Rattle.pir_io.specs.Reading.{HoldsPrefix}

-- a name and the bytes that it is to hold
pub record Output : Type 0 where
  pub name : List ℕ
  pub bytes : List ℕ

-- how the program sees one, and several
abbrev pub output_seen : Given → Output
output_seen given = record { name = given.name.now; bytes = given.bytes.now }

abbrev pub outputs_seen : List Given → List Output
outputs_seen given = map output_seen given

-- a name was given these bytes, and other names stay
abbrev pub Wrote : FilesSeen → FilesSeen → Output → Type 0
Wrote old new output = (new.content output.name ≡ Some output.bytes) × KeepsOthers old new output.name

-- Outputs were written one after the other: where a name comes twice, it holds what was written to it last.
abbrev pub WroteAll : List Output → FilesSeen → FilesSeen → Type 0
WroteAll [] old new = Keeps old new
WroteAll (output ∷ outputs) old new = (mid : FilesSeen) × Wrote old mid output × WroteAll outputs mid new

-- an output's name is as it was or holds a prefix of its bytes, and other names stay
abbrev pub StoppedAt : FilesSeen → FilesSeen → Output → Type 0
StoppedAt old new output = HoldsPrefix old new output.name output.bytes × KeepsOthers old new output.name

-- Writing stopped: at the first output; or after it was written, at a later one.
abbrev pub StoppedIn : List Output → FilesSeen → FilesSeen → Type 0
StoppedIn [] old new = ⊥
StoppedIn (output ∷ outputs) old new = StoppedAt old new output ⊎ ((mid : FilesSeen) × Wrote old mid output × StoppedIn outputs mid new)

-- the last call that failed wrote this name
abbrev pub LastFailedWrote : FilesSeen → List ℕ → Type 0
LastFailedWrote files name = files.last_failed ≡ Some (record { name = name; wrote = true })

-- Writing stopped in the same way, and the call that failed wrote the output where it stopped.
abbrev pub FailedIn : List Output → FilesSeen → FilesSeen → Type 0
FailedIn [] old new = ⊥
FailedIn (output ∷ outputs) old new =
    (LastFailedWrote new output.name × StoppedAt old new output) ⊎ ((mid : FilesSeen) × Wrote old mid output × FailedIn outputs mid new)

-- outputs were to be written one after the other
pub record WritesOutputs {T : Type 0} (old new : FilesSeen) (outputs : List Output) (result : Result T IoFault) : Type 0 where
  pub tells : new.tells ≡ old.tells
  pub later : old.faults ≤ new.faults
  pub ok : IsTrue old.tells → OnOk result (WroteAll outputs old new)
  pub rose : result ≡ Err Failed → Rose old.faults new.faults
  pub failed : IsTrue old.tells → result ≡ Err Failed → FailedIn outputs old new
  pub no_memory : IsTrue old.tells → result ≡ Err NoMemory → StoppedIn outputs old new

-- one output alone
abbrev pub one : List ℕ → List ℕ → List Output
one name bytes = record { name = name; bytes = bytes } ∷ []
