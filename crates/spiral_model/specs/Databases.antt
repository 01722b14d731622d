-- A database: records of one length, and their matrices over the ring.
use Rattle.std.specs.Prelude.{ℕ, List, ◌≡◌, ◌*◌, ◌/◌, ◌<◌, ◌≤◌, length, take, drop, map, All}
use Rattle.std.specs.List.{range_with_len}
use Rattle.negacyclic.specs.Ring.{reduced}
use Rattle.spiral_sets.specs.declared.param_set.ParamSet.{ParamSet}
use Rattle.spiral_sets.specs.Sets.{IsSet, q, entries, max_records, capacity}
use Rattle.spiral_model.specs.Words.{Poly, Matrix}
use Rattle.spiral_model.specs.Records.{values_of, centred_at}

-- Records of one length in bytes, one after the other.
pub record RecordTable : Type 0 where
  pub set : ParamSet
  pub record_length : ℕ
  pub bytes : List ℕ

-- how many records there are
abbrev pub record_count : RecordTable → ℕ
record_count table = length table.bytes / table.record_length

-- what every database keeps: its records are whole, none is longer than the capacity, and there are not too many
pub record IsTable (table : RecordTable) : Type 0 where
  pub known : IsSet table.set
  pub some_length : 0 < table.record_length
  pub record_length : table.record_length ≤ capacity table.set
  pub whole : length table.bytes ≡ record_count table * table.record_length
  pub count : record_count table ≤ max_records table.set
  pub are_bytes : All (λ b. b < 256) table.bytes

-- B[i], the bytes of record i; none where there is no such record
abbrev pub record_at : RecordTable → ℕ → List ℕ
record_at table i = take table.record_length (drop (i * table.record_length) table.bytes)

-- the values of record i; all 0 where there is no such record
abbrev pub values_at : RecordTable → ℕ → List ℕ
values_at table i = values_of table.set (record_at table i)

-- Entry e, row by row from 0, of the matrix of record i: its values, centred, as a polynomial.
unfoldable pub matrix_entry : RecordTable → ℕ → ℕ → Poly
matrix_entry table i e = reduced q table.set.degree (λ k. centred_at table.set (values_at table i) e k)

-- the matrix of record i
unfoldable pub matrix_of : RecordTable → ℕ → Matrix
matrix_of table i = map (matrix_entry table i) (range_with_len 0 (entries table.set))

-- the matrices of all places of a database, those without a record too
unfoldable pub matrices_of : RecordTable → List Matrix
matrices_of table = map (matrix_of table) (range_with_len 0 (max_records table.set))
