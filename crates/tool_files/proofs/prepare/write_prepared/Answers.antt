use Rattle.std.proofs.Common.{ℕ, List, ◌≡◌, ◌∙◌, ap, refl, arith}
use Rattle.spiral_model.specs.Databases.{RecordTable, record_count}
use Rattle.spiral_frames.specs.Frames.{frame_of, database_message}
use Rattle.tool_base.specs.Outputs.{Output, one}
use Rattle.tool_base.specs.Steps.{scene}
use Rattle.tool_base.specs.Texts.{database_line}
use Rattle.tool_base.proofs.Courses.{written, not_written, write_as}
use Rattle.tool_files.proofs.Preparing.{database_written, database_failed}
use Rattle.tool_files.proofs.prepare.write_prepared.Goals as goal

pub returns-in-Ok-write_db : goal.returns-in-Ok-write_db
returns-in-Ok-write_db g c =
    let text_is : c.as_bytes.result.now ≡ database_line c.args.prepare.now.set.now (record_count c.args.db.now) c.args.db.now.record_length =
    c.as_bytes.ensures.value ∙ c.in-Ok.ensures ∙ ap (λ (db : RecordTable). database_line c.args.prepare.now.set.now c.count.result db.record_length) c.db.view_is
    ∙ ap (λ (n : ℕ). database_line c.args.prepare.now.set.now n c.args.db.now.record_length) c.count.ensures.value in
    let frame : List Output = one c.args.prepare.now.db.now (frame_of (database_message c.args.db.now)) in
    write_as frame _ _ _ (scene (g.F.Files.seen c.args.files.now) (g.F.Files.seen c.write_db.new.files) (g.O.Sink.seen c.args.sink.now) (g.O.Sink.seen c.finish.new.sink)) _ refl text_is
    (written _ _ _ _ _ (omega arith) c.as_bytes.result.now c.finish.result (database_written {T = Unit {0}} {u = tt} _ _ _ c.args.db.now c.in-Ok-write_db.ensures) c.finish.ensures)

pub returns-in-Err-File : goal.returns-in-Err-File
returns-in-Err-File g c =
    let writes = rw c.in-Err-File.field-0-is at c.in-Err-File.ensures in
    not_written _ _ _ _ _ (omega arith) _ c.refuse.result (database_failed {T = Unit {0}} _ _ _ c.args.db.now writes) c.refuse.ensures
