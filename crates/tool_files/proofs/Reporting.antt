-- The command that reports noise: its lines are those of the report, and the last says whether Fits holds.
use Rattle.std.proofs.Common.{ℕ, List, ◌≡◌, ◌++◌, ◌∙◌, length, ap, subst, inl, inr}
use Rattle.std.specs.List.{range_with_len, flat_map}
use Rattle.std.proofs.lemmas.List.Folds.{flat_map-map}
use Rattle.spiral_sets.specs.declared.param_set.ParamSet.{ParamSet}
use Rattle.spiral_model.specs.Sets.{IsSet}
use Rattle.spiral_model.specs.Noise.{NoiseRow, dealt_report, Fits}
use Rattle.noise_check.specs.declared.reported.RowReport.{RowReport}
use Rattle.noise_check.specs.declared.reported.Report.{Report}
use Rattle.noise_check.specs.Reports.{IsReport, reported_at}
use Rattle.noise_check.proofs.FittingRows.{length-report, report_fits}
use Rattle.tool_base.specs.declared.status.Status.{Status}
use Rattle.tool_base.specs.Texts.{report_line, fits_line, misses_line}
use Rattle.tool_base.specs.Words.{NoiseWords}
use Rattle.tool_base.specs.Steps.{Scene, Steps, work_out, either, puts}
use Rattle.tool_files.specs.Noise.{report_lines}
use Rattle.tool_files.specs.SeenRows.{seen_line, seen_front, SeenLines}

-- what `noise` does with a set and words
abbrev pub noise_rest : NoiseWords → ParamSet → List ℕ → Steps
noise_rest n set words =
    work_out (
    either (Fits set words n.index)
    (puts (report_lines n set (dealt_report set words n.index) ++ fits_line))
    (puts (report_lines n set (dealt_report set words n.index) ++ misses_line)))

-- the lines up to the last
front_is : (n : NoiseWords) (set : ParamSet) (rows : List NoiseRow) (report : Report) → IsSet set → IsReport set rows report
    → seen_front n.set_name n.index report ≡ report_lines n set rows
front_is n set rows report known is =
    let head : ℕ → List ℕ = report_line n.set_name n.index in
    ap (λ (k : ℕ). head k ++ flat_map seen_line report.rows.items) (length-report set rows report known is)
    ∙ ap (λ (xs : List RowReport). head (length rows) ++ flat_map seen_line xs) is
    ∙ ap (λ (text : List ℕ). head (length rows) ++ text) (flat_map-map seen_line (reported_at set rows) (range_with_len 0 (length rows)))

-- the lines of what was measured are put
pub noise_reported : (n : NoiseWords) (set : ParamSet) (words : List ℕ) (report : Report) (lines text : List ℕ) (s : Scene) (status : Status) → IsSet set
    → IsReport set (dealt_report set words n.index) report → SeenLines n.set_name n.index report lines → text ≡ lines → puts text s status → noise_rest n set words s status
noise_reported n set words report lines text s status known is (inl (fits, laid)) same ends =
    let front = front_is n set (dealt_report set words n.index) report known is in
    inr (inl (
      (report_fits set (dealt_report set words n.index) report known is).0 fits,
      subst (λ (t : List ℕ). puts t s status) (same ∙ laid ∙ ap (λ (f : List ℕ). f ++ fits_line) front) ends,
    ))
noise_reported n set words report lines text s status known is (inr (misses, laid)) same ends =
    let front = front_is n set (dealt_report set words n.index) report known is in
    inr (inr (
      (λ fits. misses ((report_fits set (dealt_report set words n.index) report known is).1 fits)),
      subst (λ (t : List ℕ). puts t s status) (same ∙ laid ∙ ap (λ (f : List ℕ). f ++ misses_line) front) ends,
    ))
