-- A report fits exactly where its rows do in the model's words, and the least row that misses.
use Rattle.std.proofs.Common.{◌≡◌, ℕ, ◌<◌, ◌≤◌, ◌↔◌, Option, MatchOption, List, length, get_or, take, All, sym, ◌∙◌, ap, subst, arith, le_refl, take_all, inl, inr}
use Rattle.std.proofs.lemmas.Bool.{cases_lt}
use Rattle.std.proofs.lemmas.List.{get_or-take, length-take-le}
use Rattle.std.proofs.lemmas.List.Elements.{All-get_or, All-from_get_or}
use Rattle.std.proofs.lemmas.List.FromFn.{length-map-range_with_len}
use Rattle.negacyclic.proofs.Lists.{at_range}
use Rattle.spiral_sets.specs.declared.param_set.ParamSet.{ParamSet}
use Rattle.spiral_sets.specs.Sets.{IsSet, q}
use Rattle.spiral_model.specs.Noise.{NoiseRow, noise_left, noise_right, FitsReport}
use Rattle.noise_check.specs.declared.reported.RowReport.{RowReport}
use Rattle.noise_check.specs.declared.reported.Report.{Report}
use Rattle.noise_check.specs.Reports.{row_at, reported, reported_at, IsReport, RowFits, ReportFits, LeastMiss, ReportsFit}
use Rattle.noise_check.proofs.ReportRows.{left_there, left_missing}
use Rattle.noise_check.proofs.SideBounds.{noisy_misses}

-- a row as it is reported fits where the row does
row_as_reported : (set : ParamSet) (r : ℕ) (row : NoiseRow) → IsSet set → RowFits (reported set r row) ↔ (noise_left set row < noise_right set)
row_as_reported set r row known =
    elim (cases_lt row.noise q) [
      | inl small ↦
          subst (λ (left : Option ℕ). MatchOption left ⊥ (λ l. l < noise_right set) ↔ (noise_left set row < noise_right set)) (left_there set row small) ((λ h. h), (λ h. h))
      | inr large ↦
          let over = noisy_misses set row known large in
          subst (λ (left : Option ℕ). MatchOption left ⊥ (λ l. l < noise_right set) ↔ (noise_left set row < noise_right set)) (left_missing set row large)
          ((λ h. absurd h), (λ h. absurd (omega (arith, h, over))))
    ]

module _ (set : ParamSet) (rows : List NoiseRow) (report : Report) (known : IsSet set) (is : IsReport set rows report) where
  abbrev no_row : NoiseRow
  no_row = record { noise = 0; weight = 0 }

  pub length-report : length report.rows.items ≡ length rows
  length-report = ap (λ (xs : List RowReport). length xs) is ∙ length-map-range_with_len (reported_at set rows) 0 (length rows)

  -- row i of the report
  pub row_read : (i : ℕ) (d : RowReport) → i < length rows → get_or report.rows.items i d ≡ reported_at set rows i
  row_read i d h = ap (λ (xs : List RowReport). get_or xs i d) is ∙ at_range (reported_at set rows) (length rows) i d h

  -- the first rows, so many
  front_fits : (k : ℕ) → k ≤ length rows → All RowFits (take k report.rows.items) → FitsReport set (take k rows)
  front_fits k h all =
      All-from_get_or (λ (row : NoiseRow). noise_left set row < noise_right set) (take k rows) no_row
      (λ i below.
      let small : i < k = omega (arith, below, length-take-le k rows h) in
      let here : i < length rows = omega arith in
      let there : i < length (take k report.rows.items) = omega (arith, length-report, length-take-le k report.rows.items (omega (arith, length-report, h))) in
      let d : RowReport = reported_at set rows i in
      let fit : RowFits d = subst RowFits (get_or-take k report.rows.items i d small ∙ row_read i d here) (All-get_or RowFits (take k report.rows.items) i d there all) in
      subst (λ (row : NoiseRow). noise_left set row < noise_right set) (sym (get_or-take k rows i no_row small)) ((row_as_reported set i (row_at rows i) known).0 fit))

  all_fit : FitsReport set rows → ReportFits report
  all_fit all =
      All-from_get_or RowFits report.rows.items (reported_at set rows 0)
      (λ i below.
      let here : i < length rows = omega (arith, length-report, below) in
      let fit : noise_left set (row_at rows i) < noise_right set = All-get_or (λ (row : NoiseRow). noise_left set row < noise_right set) rows i no_row here all in
      subst RowFits (sym (row_read i (reported_at set rows 0) here)) ((row_as_reported set i (row_at rows i) known).1 fit))

  -- The report fits where the rows do.
  pub report_fits : ReportFits report ↔ FitsReport set rows
  report_fits = (
    (λ all.
        let whole : All RowFits (take (length rows) report.rows.items) =
        subst (λ (xs : List RowReport). All RowFits xs) (sym (take_all (length rows) report.rows.items (omega (arith, length-report)))) all in
        subst (λ (xs : List NoiseRow). FitsReport set xs) (take_all (length rows) rows (le_refl (length rows))) (front_fits (length rows) (le_refl (length rows)) whole)),
    all_fit,
  )

  module _ (place : ℕ) (miss : LeastMiss report place) where
    pub miss_within : place < length rows
    miss_within = omega (arith, length-report, miss.within)

    -- its left side isn't below the right one,
    pub miss_left : noise_right set ≤ noise_left set (row_at rows place)
    miss_left =
        elim (cases_lt (noise_left set (row_at rows place)) (noise_right set)) [
          | inl fits ↦
              absurd (miss.misses (reported_at set rows place) (subst RowFits (sym (row_read place (reported_at set rows place) miss_within)) ((row_as_reported set place (row_at rows place) known).1 fits)))
          | inr over ↦ over
        ]

    -- and the rows before it fit.
    pub before_miss : FitsReport set (take place rows)
    before_miss = front_fits place (omega (arith, miss_within)) miss.before

pub reports_fit : ReportsFit
reports_fit set rows report known is = report_fits set rows report known is
