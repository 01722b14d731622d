-- What the command `noise SET INDEX WORDS` does.
use Rattle.std.specs.Prelude.{ℕ, List, ◌++◌, ◌+◌, length}
use Rattle.std.specs.List.{range_with_len, flat_map}
use Rattle.spiral_sets.specs.declared.param_set.ParamSet.{ParamSet}
use Rattle.spiral_model.specs.Noise.{NoiseRow, noise_right, dealt_report, Fits}
use Rattle.noise_check.specs.Reports.{row_at, left_of}
use Rattle.tool_base.specs.Texts.{report_line, report_row_line, fits_line, misses_line}
use Rattle.tool_base.specs.Words.{NoiseWords}
use Rattle.tool_base.specs.Steps.{Steps, work_out, either, puts}
use Rattle.tool_files.specs.WithWords.{with_words}

-- the line of row r, from 0
abbrev pub row_line : ParamSet → List NoiseRow → ℕ → List ℕ
row_line set rows r = report_row_line (r + 1) (row_at rows r).noise (row_at rows r).weight (left_of set (row_at rows r)) (noise_right set)

-- the lines of a report, up to the one that says whether it fits
abbrev pub report_lines : NoiseWords → ParamSet → List NoiseRow → List ℕ
report_lines n set rows = report_line n.set_name n.index (length rows) ++ flat_map (row_line set rows) (range_with_len 0 (length rows))

-- Reports the noise of the query that the words give for the index, and whether Fits holds of it.
abbrev pub noises : NoiseWords → Steps
noises n =
    with_words n.set_name n.index n.source (λ set words.
    work_out (
    either (Fits set words n.index)
    (puts (report_lines n set (dealt_report set words n.index) ++ fits_line))
    (puts (report_lines n set (dealt_report set words n.index) ++ misses_line))))
