use Rattle.std.proofs.Common.{◌≡◌, ℕ, List, [], get_or, map, ap, ◌∙◌, arith}
use Rattle.std.specs.List.{range_with_len}
use Rattle.negacyclic.proofs.Lists.{pushed_more}
use Rattle.spiral_sets.proofs.SetBounds.{n-most}
use Rattle.spiral_model.specs.Words.{Poly, Cipher, Gsw}
use Rattle.spiral_model.specs.Answering.{Ready}
use Rattle.spiral_model.specs.Noise.{NoiseRow, first_noise, gsw_noise, lift_noise, noise_bound, polys_of, secret_weight, report_row, report_of}
use Rattle.regev_code.specs.Seen.{Secrets}
use Rattle.regev_code.specs.Shapes.{scalar_of}
use Rattle.gsw_code.specs.Columns.{row_secrets_of}
use Rattle.noise_check.specs.Reports.{reported}
use Rattle.noise_check.specs.Rooms.{MeasuredRow}
use Rattle.noise_check.proofs.ReportRows.{packed_row, reported_rows}
use Rattle.noise_check.proofs.measuring.packed_report.Goals as goal

pub reported_row-requires-clause-few : goal.reported_row-requires-clause-few
reported_row-requires-clause-few c = omega (arith, n-most c.args.set.now c.requires.known)

pub loop-row-preserved : goal.loop-row-preserved
loop-row-preserved c =
    let set = c.args.set.now in
    let row = c.loop-row.row in
    let own : Secrets = c.args.room.now.secrets in
    let s : Poly = scalar_of set.degree own in
    let first = c.first_noise-first.result in
    let gsw = c.gsw_noise-gsw.result in
    let first_is =
    c.first_noise-first.ensures.value
    ∙ ap (λ (m : MeasuredRow). first_noise set (row_secrets_of set m.secrets) c.args.index c.deref.result.now m.row) c.turn_to.ensures
    ∙ ap (λ (cs : List Cipher). first_noise set (row_secrets_of set own) c.args.index cs 0) (c.deref.ensures.value ∙ ap (λ (r : Ready). r.firsts) c.ready.view_is) in
    let gsw_is =
    c.gsw_noise-gsw.ensures.value
    ∙ ap (λ (m : MeasuredRow). gsw_noise set (row_secrets_of set m.secrets) c.args.index c.deref-2.result.now m.row) (c.first_noise-first.ensures.room ∙ c.turn_to.ensures)
    ∙ ap (λ (gs : List Gsw). gsw_noise set (row_secrets_of set own) c.args.index gs 0) (c.deref-2.ensures.value ∙ ap (λ (r : Ready). r.gsws) c.ready.view_is) in
    let bound =
    c.packed_row-noise.ensures.noise
    ∙ ap (λ (m : MeasuredRow). noise_bound set first gsw (lift_noise set (scalar_of set.degree m.secrets) (polys_of set m.secrets.rows) c.args.lift.now m.row)) c.turn_to-in-loop-row.ensures
    ∙ ap (λ (secrets : Secrets). noise_bound set first gsw (lift_noise set (scalar_of set.degree secrets) (polys_of set secrets.rows) c.args.lift.now row)) c.loop-row.invariant.secrets in
    let counted =
    c.packed_row-noise.ensures.counted
    ∙ ap (λ (m : MeasuredRow). secret_weight (get_or m.secrets.rows m.row [])) c.turn_to-in-loop-row.ensures
    ∙ ap (λ (secrets : Secrets). secret_weight (get_or secrets.rows row [])) c.loop-row.invariant.secrets in
    let whole : c.packed_row-noise.result ≡ report_row set s own.rows c.args.index c.args.lift.now c.args.ready.now row =
    packed_row set own c.args.index row first gsw c.packed_row-noise.result.noise c.packed_row-noise.result.weight c.args.lift.now c.args.ready.now c.requires.packs c.requires.one
    first_is gsw_is bound counted in
    record {
      rows =
          pushed_more (λ r. reported set r (report_row set s own.rows c.args.index c.args.lift.now c.args.ready.now r)) 0 row row c.loop-row.rows.items c.push.new.self.items
          c.reported_row.result (omega arith) c.loop-row.invariant.rows c.in_ok-push.ensures.items (c.reported_row.ensures ∙ ap (reported set row) whole);
      degree = ap (λ (m : MeasuredRow). m.degree) (c.packed_row-noise.ensures.room ∙ c.turn_to-in-loop-row.ensures) ∙ c.loop-row.invariant.degree;
      secrets = ap (λ (m : MeasuredRow). m.secrets) (c.packed_row-noise.ensures.room ∙ c.turn_to-in-loop-row.ensures) ∙ c.loop-row.invariant.secrets;
    }

pub returns : goal.returns
unfolding report_of
returns c =
    let set = c.args.set.now in
    let own : Secrets = c.args.room.now.secrets in
    let f : ℕ → NoiseRow = report_row set (scalar_of set.degree own) own.rows c.args.index c.args.lift.now c.args.ready.now in
    let all : c.loop-row.row ≡ set.n = omega arith in
    c.loop-row.invariant.rows ∙ ap (λ (n : ℕ). map (λ r. reported set r (f r)) (range_with_len 0 n)) all ∙ reported_rows set f set.n
