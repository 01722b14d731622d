-- How a database's frame is decoded: its first numbers, and then the whole.
use Rattle.std.specs.Prelude.{ℕ, List, ◌≡◌, ◌+◌, ◌*◌, ◌<◌, ◌≤◌, length, Option, Some, None, Result, Ok, Err}
use Rattle.frame_headers.specs.declared.frame_error.FrameError.{FrameError}
use Rattle.frame_headers.specs.declared.frame_error.FrameError.TheVariants.{Short}
use Rattle.frame_headers.specs.declared.kind.FrameKind.TheVariants.{Database}
use Rattle.spiral_model.specs.Sets.{IsSet, max_records, capacity}
use Rattle.spiral_model.specs.Databases.{RecordTable}
use Rattle.spiral_frames.specs.Frames.{IsOne, database_message}
use Rattle.spiral_frames.specs.Checks.{Outcome, passes, refuses, ends_before, set_in, header_len_in, body_len_in, number_at}
use Rattle.spiral_frames.specs.FrameChecks.{database_refusal}
use Rattle.record_store.specs.declared.decoding.Front.{Front}

-- the refusal of an input of this size whose checks don't pass
abbrev pub refusal_by : Outcome → ℕ → Option FrameError
refusal_by passes size = None
refusal_by (refuses error) size = Some error
refusal_by ends_before size = Some (Short size)

-- These are the set that the header names, the count of the records, their length, and where they start; the body
-- is as long as they say.
pub record HasNumbers (bytes : List ℕ) (front : Front) : Type 0 where
  pub known : IsSet front.set
  pub named : set_in bytes ≡ Some front.set
  pub start : front.start ≡ header_len_in bytes + 16
  pub near : front.start ≤ 286
  pub count : front.count ≡ number_at bytes (header_len_in bytes)
  pub record_length : front.length ≡ number_at bytes (header_len_in bytes + 8)
  pub body : body_len_in bytes ≡ 16 + front.count * front.length
  pub most : front.count ≤ max_records front.set
  pub some_length : 0 < front.length
  pub fits : front.length ≤ capacity front.set

-- the numbers are read, or the input is refused, by what its checks find
abbrev pub ReadsNumbers : List ℕ → Outcome → Result Front FrameError → Type 0
ReadsNumbers bytes outcome (Ok front) = (outcome ≡ passes) × HasNumbers bytes front
ReadsNumbers bytes outcome (Err error) = refusal_by outcome (length bytes) ≡ Some error

-- a whole frame is decoded, or refused
abbrev pub Decodes : List ℕ → Result RecordTable FrameError → Type 0
Decodes bytes (Ok db) = IsOne Database bytes (database_message db) × (database_refusal bytes ≡ None)
Decodes bytes (Err error) = database_refusal bytes ≡ Some error
