-- The lines of a report as they are laid out.
use Rattle.std.specs.Prelude.{ℕ, List, ◌≡◌, ◌⊎◌, ◌++◌, length}
use Rattle.std.specs.List.{flat_map}
use Rattle.noise_check.specs.declared.reported.RowReport.{RowReport}
use Rattle.noise_check.specs.declared.reported.Report.{Report}
use Rattle.noise_check.specs.Reports.{ReportFits}
use Rattle.tool_base.specs.Texts.{report_line, report_row_line, fits_line, misses_line}

abbrev pub seen_line : RowReport → List ℕ
seen_line row = report_row_line row.row row.noise row.secret row.left row.right

-- the lines up to the last
abbrev pub seen_front : List ℕ → ℕ → Report → List ℕ
seen_front set index report = report_line set index (length report.rows.items) ++ flat_map seen_line report.rows.items

-- all lines: the last says whether the report fits
abbrev pub SeenLines : List ℕ → ℕ → Report → List ℕ → Type 0
SeenLines set index report lines =
    (ReportFits report × (lines ≡ seen_front set index report ++ fits_line))
    ⊎ ((ReportFits report → ⊥) × (lines ≡ seen_front set index report ++ misses_line))
