-- What the program does with `fetch` where a server of a database answers what it sends: OUT gets the record that was asked for.
use Rattle.std.specs.Prelude.{ℕ, List, IsTrue, ◌≡◌, ◌⊎◌, ◌<◌, length}
use Rattle.pir_io.specs.Files.{FilesSeen}
use Rattle.pir_io.specs.Reading.{OnlyRead}
use Rattle.pir_io.specs.Link.{LinkSeen}
use Rattle.spiral_model.specs.Databases.{RecordTable, IsTable, record_at, record_count}
use Rattle.frame_streams.specs.Serving.{serve_bytes}
use Rattle.tool_base.specs.declared.status.Status.{Status}
use Rattle.tool_base.specs.Statuses.{number_of_status}
use Rattle.tool_base.specs.Texts.{record_line}
use Rattle.tool_base.specs.Names.{Names}
use Rattle.tool_base.specs.Words.{FetchWords, FetchForm, the_fetch, words_of}
use Rattle.tool_base.specs.Outputs.{one}
use Rattle.tool_base.specs.Steps.{Scene, Steps, at_files, write}
use Rattle.tool_fetch.specs.Fetch.{breaks_off, ends_before}

-- It ends before the net is used; or a call of the net fails, or memory is wanting; or these bytes are written as the record.
abbrev pub brings : FetchWords → List ℕ → LinkSeen → LinkSeen → Steps
brings f bytes net net_after s status =
    ((net_after ≡ net) × ends_before f s status)
    ⊎ ((now : FilesSeen) × OnlyRead s.files now
    × (breaks_off net net_after (at_files now s) status ⊎ write (one f.out_name bytes) (record_line (length bytes)) (at_files now s) status))

-- The peer is a server of the database, of the set that is named, and there is a record at the index: what came is what such a server writes for what
-- was sent.
pub record IsServed (f : FetchWords) (table : RecordTable) (net net_after : LinkSeen) : Type 0 where
  pub is_table : IsTable table
  pub named : Names f.set_name table.set
  pub present : f.index < record_count table
  pub tells : IsTrue net.tells
  pub came : net_after.took ≡ serve_bytes table net_after.wrote

-- Run with the words of `fetch` beside such a server, the program brings the record that was asked for.
abbrev pub Fetches : List (List ℕ) → LinkSeen → LinkSeen → Scene → ℕ → Type 0
Fetches line net net_after s number =
    (f : FetchWords) (table : RecordTable) → line ≡ words_of (record { name = the_fetch; said = f }) → FetchForm f → IsServed f table net net_after
    → (status : Status) × (number ≡ number_of_status status) × brings f (record_at table f.index) net net_after s status
