use Rattle.std.proofs.Common.{◌<◌, ap, subst, arith}
use Rattle.spiral_model.specs.Databases.{RecordTable, IsTable, record_count}
use Rattle.noise_laws.specs.LookUps.{LookUp}
use Rattle.tool_base.specs.Steps.{scene}
use Rattle.tool_base.specs.Texts.{record_line}
use Rattle.tool_base.specs.Words.{local_seen}
use Rattle.tool_base.proofs.Courses.{held, write_as}
use Rattle.tool_local.proofs.LocalLookUp.{found_is}
use Rattle.tool_local.proofs.local.look_up.Goals as goal

pub returns-in-Ok : goal.returns-in-Ok
returns-in-Ok g c words is =
    let l = local_seen c.args.local.now in
    let below : c.args.local.now.index < record_count c.args.db = omega (arith, c.if-local-count.false, c.count-count.ensures.value, ap record_count c.db.view_is) in
    let look_up : LookUp c.args.db words c.args.local.now.index = record { is_table = subst IsTable c.db.view_is c.db.invariant; present = below; fits = is.fits } in
    held below
    (write_as _ _ _ _ (scene (g.F.Files.seen c.args.files.now) (g.F.Files.seen c.write_found.new.files) (g.O.Sink.seen c.args.sink.now) (g.O.Sink.seen c.write_found.new.sink)) c.write_found.result
    (found_is l c.args.db words c.in-Ok.found (c.in-Ok.ensures words c.args.local.now.index look_up is)) (ap (λ (t : RecordTable). record_line t.record_length) c.db.view_is) c.write_found.ensures)
