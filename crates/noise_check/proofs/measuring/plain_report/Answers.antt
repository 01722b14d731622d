use Rattle.std.proofs.Common.{◌≡◌, ℕ, map, ap, ◌∙◌, arith}
use Rattle.std.specs.List.{range_with_len}
use Rattle.negacyclic.proofs.Lists.{pushed_more}
use Rattle.spiral_sets.proofs.SetBounds.{n-most}
use Rattle.spiral_model.specs.Noise.{NoiseRow, report_row, report_of}
use Rattle.regev_code.specs.Seen.{Secrets}
use Rattle.noise_check.specs.Reports.{reported}
use Rattle.noise_check.specs.Rooms.{MeasuredRow}
use Rattle.noise_check.proofs.ReportRows.{reported_rows}
use Rattle.noise_check.proofs.measuring.plain_report.Goals as goal

pub reported_row-requires-clause-few : goal.reported_row-requires-clause-few
reported_row-requires-clause-few c = omega (arith, n-most c.args.set.now c.requires.known)

pub loop-row-preserved : goal.loop-row-preserved
loop-row-preserved c =
    let set = c.args.set.now in
    let row = c.loop-row.row in
    record {
      rows = λ s lift.
          pushed_more (λ r. reported set r (report_row set s c.args.room.now.secrets.rows c.args.index lift c.args.ready.now r)) 0 row row c.loop-row.rows.items
          c.push.new.self.items c.reported_row.result (omega arith) (c.loop-row.invariant.rows s lift) c.in_ok-push.ensures.items
          (c.reported_row.ensures
          ∙ ap (reported set row) (c.plain_row-noise.ensures.value s lift
          ∙ ap (λ (m : MeasuredRow). report_row set s m.secrets.rows c.args.index lift c.args.ready.now m.row) c.turn_to.ensures
          ∙ ap (λ (secrets : Secrets). report_row set s secrets.rows c.args.index lift c.args.ready.now row) c.loop-row.invariant.secrets));
      degree = ap (λ (m : MeasuredRow). m.degree) (c.plain_row-noise.ensures.room ∙ c.turn_to.ensures) ∙ c.loop-row.invariant.degree;
      secrets = ap (λ (m : MeasuredRow). m.secrets) (c.plain_row-noise.ensures.room ∙ c.turn_to.ensures) ∙ c.loop-row.invariant.secrets;
    }

pub returns : goal.returns
unfolding report_of
returns c = λ s lift.
    let set = c.args.set.now in
    let f : ℕ → NoiseRow = report_row set s c.args.room.now.secrets.rows c.args.index lift c.args.ready.now in
    let all : c.loop-row.row ≡ set.n = omega arith in
    c.loop-row.invariant.rows s lift ∙ ap (λ (n : ℕ). map (λ r. reported set r (f r)) (range_with_len 0 n)) all ∙ reported_rows set f set.n
