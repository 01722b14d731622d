-- The parts of `local`: what an exchange within the process finds, and what is written of it.
use Rattle.std.specs.Prelude.{ℕ, List, [], ◌∷◌, ◌++◌, ◌≡◌, ◌<◌, Result, IfOk}
use Rattle.spiral_model.specs.Databases.{RecordTable, record_at, record_count}
use Rattle.session_laws.specs.Exchanges.{asking_bytes, answering_bytes}
use Rattle.noise_laws.specs.LookUps.{LookUp}
use Rattle.pir_client.specs.declared.asking.Asked.{Asked}
use Rattle.pir_client.specs.Asks.{IsAsked}
use Rattle.tool_base.specs.declared.status.Status.TheVariants.{Absent}
use Rattle.tool_base.specs.Texts.{absent_line, record_line}
use Rattle.tool_base.specs.Words.{LocalWords}
use Rattle.tool_base.specs.Outputs.{Output}
use Rattle.tool_base.specs.Steps.{Steps, needs, write}
use Rattle.tool_local.specs.declared.local.Found.{Found}
use Rattle.tool_local.specs.Local.{local_outputs}

-- the bytes of both directions, and the record that was asked for
pub record IsFound (table : RecordTable) (words : List ℕ) (index : ℕ) (found : Found) : Type 0 where
  pub transcript : found.transcript.items ≡ asking_bytes table.set words index ++ answering_bytes table words index
  pub bytes : found.record.items ≡ record_at table index

-- an exchange finds them, whatever look-up of the database it is that was asked; or memory was wanting
abbrev pub Finds : {E : Type 0} → RecordTable → Asked → Result Found E → Type 0
Finds table asked result =
    (words : List ℕ) (index : ℕ) → LookUp table words index → IsAsked table.set index words asked → IfOk result (λ found. IsFound table words index found)

-- what is written of what was found
abbrev pub found_outputs : LocalWords → Found → List Output
found_outputs l found =
    record { name = l.transcript_name; bytes = found.transcript.items } ∷ record { name = l.out_name; bytes = found.record.items } ∷ []

-- goes on with a database and words whose query fits, for which memory may be wanting
abbrev pub local_present : LocalWords → RecordTable → List ℕ → Steps
local_present l table words =
    needs (l.index < record_count table) Absent (absent_line l.index (record_count table)) (
    write (local_outputs l table words) (record_line table.record_length))
