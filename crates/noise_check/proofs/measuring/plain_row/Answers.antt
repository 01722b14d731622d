use Rattle.std.proofs.Common.{List, [], ◌∙◌, ap, get_or, arith}
use Rattle.spiral_sets.proofs.SetBounds.{degree-most}
use Rattle.spiral_model.specs.Words.{Cipher, Gsw}
use Rattle.spiral_model.specs.Answering.{Ready}
use Rattle.spiral_model.specs.Noise.{first_noise, gsw_noise, secret_weight}
use Rattle.gsw_code.specs.Columns.{row_secrets_of}
use Rattle.noise_check.specs.Rooms.{MeasuredRow}
use Rattle.noise_check.proofs.ReportRows.{plain_row}
use Rattle.noise_check.proofs.SideBounds.{q2-large}
use Rattle.noise_check.proofs.measuring.plain_row.Goals as goal

pub returns-clause-value : goal.returns-clause-value
returns-clause-value c = λ s lift.
    let set = c.args.set.now in
    let room = c.args.room.now in
    plain_row set s room.secrets c.args.index room.row c.first_noise-first.result c.gsw_noise-gsw.result c.noise_bound.result c.weight.result lift c.args.ready.now c.requires.plain
    (c.first_noise-first.ensures.value
    ∙ ap (λ (cs : List Cipher). first_noise set (row_secrets_of set room.secrets) c.args.index cs room.row) (c.deref.ensures.value ∙ ap (λ (r : Ready). r.firsts) c.ready.view_is))
    (c.gsw_noise-gsw.ensures.value
    ∙ ap (λ (m : MeasuredRow). gsw_noise set (row_secrets_of set m.secrets) c.args.index c.deref-2.result.now m.row) c.first_noise-first.ensures.room
    ∙ ap (λ (gs : List Gsw). gsw_noise set (row_secrets_of set room.secrets) c.args.index gs room.row) (c.deref-2.ensures.value ∙ ap (λ (r : Ready). r.gsws) c.ready.view_is))
    c.noise_bound.ensures
    (c.weight.ensures.value ∙ ap (λ (m : MeasuredRow). secret_weight (get_or m.secrets.rows m.row [])) (c.gsw_noise-gsw.ensures.room ∙ c.first_noise-first.ensures.room))

pub returns-clause-weight : goal.returns-clause-weight
returns-clause-weight c =
    let known = c.requires.measured.known in
    omega (arith, c.weight.ensures.size, c.requires.measured.ring_degree, degree-most c.args.set.now known, q2-large c.args.set.now known)
