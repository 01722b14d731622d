use Rattle.std.proofs.Common.{◌<◌, ◌≤◌, List, length, All, subst, arith, take_all}
use Rattle.std.proofs.lemmas.List.Elements.{All-more}
use Rattle.noise_check.specs.declared.reported.RowReport.{RowReport}
use Rattle.noise_check.specs.Reports.{RowFits}
use Rattle.noise_check.proofs.sides.first_miss.Goals as goal

pub loop-place-preserved : goal.loop-place-preserved
loop-place-preserved c =
    let rows = c.args.report.now.rows.items in
    let within : c.loop-place.place < length rows = omega arith in
    All-more RowFits rows c.loop-place.place c.index.result.now within c.loop-place.invariant
    (subst RowFits c.index.ensures (c.row_fits.ensures.0 c.if-not-row_fits.false))

pub returns : goal.returns
returns c =
    let rows = c.args.report.now.rows.items in
    let past : length rows ≤ c.loop-place.place = omega arith in
    subst (λ (xs : List RowReport). All RowFits xs) (take_all c.loop-place.place rows past) c.loop-place.invariant
