-- What is prepared as a database, and why it may not be.
use Rattle.std.specs.Prelude.{ℕ, List, ◌≡◌, ◌≢◌, ◌⊎◌, ◌*◌, ◌%◌, ◌<◌, ◌≤◌, length, Result, Ok, Err}
use Rattle.spiral_sets.specs.declared.param_set.ParamSet.{ParamSet}
use Rattle.spiral_model.specs.Sets.{max_records, capacity}
use Rattle.spiral_model.specs.Databases.{RecordTable, IsTable}
use Rattle.record_store.specs.declared.preparing.PrepareError.{PrepareError}
use Rattle.record_store.specs.declared.preparing.PrepareError.TheVariants.{RecordLength, TooMany, Ragged}

-- records of the set may be so long
abbrev pub MayBeLong : ParamSet → ℕ → Type 0
MayBeLong set len = (0 < len) × (len ≤ capacity set)

-- each answer to a record length, and where it comes
abbrev pub ChecksLength : ParamSet → ℕ → Result (Unit {0}) PrepareError → Type 0
ChecksLength set len (Ok _) = MayBeLong set len
ChecksLength set len (Err (RecordLength given most)) = (given ≡ len) × (most ≡ capacity set) × ((len ≡ 0) ⊎ (capacity set < len))
ChecksLength set len (Err (TooMany _ _)) = ⊥
ChecksLength set len (Err (Ragged _ _)) = ⊥

-- Each answer to bytes that are to be the records, and where it comes: a length that no record has before too many
-- bytes, and those before a size that is no multiple of the length.
abbrev pub Prepares : ParamSet → ℕ → List ℕ → Result RecordTable PrepareError → Type 0
Prepares set len input (Ok db) = (db ≡ record { set = set; record_length = len; bytes = input }) × IsTable db
Prepares set len input (Err (RecordLength given most)) = (given ≡ len) × (most ≡ capacity set) × ((len ≡ 0) ⊎ (capacity set < len))
Prepares set len input (Err (TooMany given most)) =
    MayBeLong set len × (given ≡ len) × (most ≡ max_records set) × (max_records set * len < length input)
Prepares set len input (Err (Ragged given size)) =
    MayBeLong set len × (length input ≤ max_records set * len) × (given ≡ len) × (size ≡ length input) × (length input % len ≢ 0)
