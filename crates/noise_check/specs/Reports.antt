-- The report of a query's noise as a client gets it, and what is read off it.
use Rattle.std.specs.Prelude.{ℕ, List, ◌≡◌, ◌+◌, ◌<◌, ◌↔◌, length, map, take, slice_index_or, nat_lt, if◌then◌else◌, Option, Some, None, All, MatchOption}
use Rattle.std.specs.List.{range_with_len}
use Rattle.spiral_sets.specs.declared.param_set.ParamSet.{ParamSet}
use Rattle.spiral_sets.specs.Sets.{IsSet, q}
use Rattle.spiral_model.specs.Noise.{NoiseRow, noise_left, noise_right, FitsReport}
use Rattle.noise_check.specs.declared.reported.RowReport.{RowReport}
use Rattle.noise_check.specs.declared.reported.Report.{Report}

-- a row of the model's report, counted from 0
abbrev pub row_at : List NoiseRow → ℕ → NoiseRow
row_at rows r = slice_index_or rows r (record { noise = 0; weight = 0 })

-- The left side of a row; none where the noise is at least q, where it misses in any case.
abbrev pub left_of : ParamSet → NoiseRow → Option ℕ
left_of set row = if nat_lt row.noise q then Some (noise_left set row) else None

-- how a row, counted from 0, is reported
abbrev pub reported : ParamSet → ℕ → NoiseRow → RowReport
reported set r row = record { row = r + 1; noise = row.noise; secret = row.weight; left = left_of set row; right = noise_right set }

abbrev pub reported_at : ParamSet → List NoiseRow → ℕ → RowReport
reported_at set rows r = reported set r (row_at rows r)

-- the report has these rows
abbrev pub IsReport : ParamSet → List NoiseRow → Report → Type 0
IsReport set rows report = report.rows.items ≡ map (reported_at set rows) (range_with_len 0 (length rows))

-- a reported row fits: it has a left side, and that is below the right one
abbrev pub RowFits : RowReport → Type 0
RowFits row = MatchOption row.left ⊥ (λ left. left < row.right)

abbrev pub ReportFits : Report → Type 0
ReportFits report = All RowFits report.rows.items

-- The least row of a report that doesn't fit, as a position from 0.
pub record LeastMiss (report : Report) (place : ℕ) : Type 0 where
  pub within : place < length report.rows.items
  pub misses : (row : RowReport) → RowFits (slice_index_or report.rows.items place row) → ⊥
  pub before : All RowFits (take place report.rows.items)

-- A report fits exactly where its rows do in the words of the model: where T is at least q the left side is too large anyway.
abbrev pub ReportsFit : Type 0
ReportsFit = (set : ParamSet) (rows : List NoiseRow) (report : Report) → IsSet set → IsReport set rows report → ReportFits report ↔ FitsReport set rows
