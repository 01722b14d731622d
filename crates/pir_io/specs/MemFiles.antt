-- What is seen of the files in memory.
use Rattle.std.specs.Prelude.{ℕ, List, true, ◌≡◌, None, Some, Result, OnOk, OnErr, string_bytes}
use Rattle.std.specs.Option.{option_map}
use Rattle.pir_io.specs.declared.mem_files.LastFailed.{LastFailed}
use Rattle.pir_io.specs.declared.mem_files.MemFiles.{MemFiles}
use Rattle.pir_io.specs.declared.sound_files.SoundFiles.{SoundFiles}
use Rattle.pir_io.specs.Contents.{content_at}
use Rattle.pir_io.specs.Files.{FilesSeen, FailedCall, Keeps, KeepsOthers}
use Rattle.pir_io.specs.Plan.{CallPlan}
use Rattle.pir_io.specs.PlanOf.{call_plan}
use Rattle.no_memory.specs.declared.NoMemory.{NoMemory}

abbrev pub failed_call : LastFailed → FailedCall
failed_call last = record { name = string_bytes last.name; wrote = last.wrote }

abbrev pub mem_files_seen : MemFiles → FilesSeen
mem_files_seen files = record { tells = true; content = content_at files.contents; faults = files.plan.faults; last_failed = option_map failed_call files.last_failed }

abbrev pub mem_files_plan : MemFiles → CallPlan
mem_files_plan files = call_plan files.plan

abbrev pub sound_files_seen : SoundFiles → FilesSeen
sound_files_seen files = record { tells = true; content = content_at files.contents; faults = 0; last_failed = None }

-- no name is there, no call was made
pub record IsEmpty (files : FilesSeen) : Type 0 where
  pub content : (name : List ℕ) → files.content name ≡ None
  pub faults : files.faults ≡ 0
  pub last : files.last_failed ≡ None

-- what `with` does: the name holds these bytes, and all else stays; where memory was wanting, nothing changes
pub record Takes (old new : FilesSeen) (name bytes : List ℕ) (result : Result (Unit {0}) NoMemory) : Type 0 where
  pub tells : new.tells ≡ old.tells
  pub ok : OnOk result (new.content name ≡ Some bytes)
  pub err : OnErr result (Keeps old new)
  pub others : KeepsOthers old new name
  pub faults : new.faults ≡ old.faults
  pub last : new.last_failed ≡ old.last_failed
