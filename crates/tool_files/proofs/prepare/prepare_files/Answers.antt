use Rattle.std.proofs.Common.{List, ℕ, ◌≡◌, ◌≤◌, ◌%◌, ◌*◌, ◌∙◌, length, take, inl, refl, ap, subst}
use Rattle.pir_io.specs.Files.{content_of}
use Rattle.spiral_model.specs.Sets.{max_records}
use Rattle.spiral_model.specs.Databases.{RecordTable, IsTable, record_count}
use Rattle.spiral_frames.specs.Frames.{frame_of, database_message}
use Rattle.tool_base.specs.Outputs.{one}
use Rattle.tool_base.specs.Steps.{scene}
use Rattle.tool_base.specs.Texts.{database_line}
use Rattle.tool_base.specs.Words.{prepare_seen}
use Rattle.tool_base.proofs.Courses.{behind, found, held, denied, write_as}
use Rattle.tool_files.specs.Prepare.{table_of}
use Rattle.tool_files.proofs.Preparing.{length_refused, records_refused, not_too_many, not_ragged}
use Rattle.tool_files.proofs.prepare.prepare_files.Goals as goal

pub returns-in_default : goal.returns-in_default
returns-in_default g c = denied c.in_default.ensures.none refl c.refuse.ensures

pub returns-in-Err : goal.returns-in-Err
returns-in-Err g c =
    let refused = length_refused c.in-Some.set c.args.prepare.now.length c.in-Err.error _ _ c.refuse_records.result c.in-Err.ensures c.refuse_records.ensures in
    found c.in-Some.set c.in-Some.ensures.found (denied refused.0 refl refused.1)

pub returns-in-Err-Failed : goal.returns-in-Err-Failed
returns-in-Err-Failed g c =
    let reads = rw c.in-Err-Failed.field-0-is at c.in-Err-Failed.ensures in
    found c.in-Some.set c.in-Some.ensures.found (held c.in_default-check_length.ensures (behind c.read_front.ensures.only (inl (inl (reads.failed refl, (refl, c.refuse-in-Err-Failed.ensures))))))

pub returns-in-Ok-prepare : goal.returns-in-Ok-prepare
returns-in-Ok-prepare g c =
    let content : List ℕ = content_of (g.F.Files.seen c.args.files.now) c.args.prepare.now.input.now in
    let name : List ℕ = c.args.prepare.now.set.now in
    let made : RecordTable = table_of (prepare_seen c.args.prepare.now) c.in-Some.set c.in-Ok.input.items in
    let db_is : c.in-Ok-prepare.db ≡ made = c.in-Ok-prepare.ensures.0 in
    let table : IsTable made = subst IsTable db_is c.in-Ok-prepare.ensures.1 in
    let few : length c.in-Ok.input.items ≤ max_records c.in-Some.set * c.args.prepare.now.length = not_too_many made table in
    let whole : length c.in-Ok.input.items % c.args.prepare.now.length ≡ 0 = not_ragged made table in
    found c.in-Some.set c.in-Some.ensures.found (held c.in_default-check_length.ensures (behind c.read_front.ensures.only (found c.in-Ok.input.items
    (λ told. c.in-Ok.ensures.front told ∙ ap (λ (n : ℕ). take n content) c.input_limit-limit.ensures)
    (held few (held whole (
      table,
      write_as _ _ _ _ (scene (g.F.Files.seen c.read_front.new.files) (g.F.Files.seen c.write_prepared.new.files) (g.O.Sink.seen c.args.sink.now) (g.O.Sink.seen c.write_prepared.new.sink)) c.write_prepared.result
          (ap (λ (t : RecordTable). one c.args.prepare.now.db.now (frame_of (database_message t))) db_is) (ap (λ (t : RecordTable). database_line name (record_count t) t.record_length) db_is) c.write_prepared.ensures,
    ))))))

pub returns-in-Err-prepare : goal.returns-in-Err-prepare
returns-in-Err-prepare g c =
    let content : List ℕ = content_of (g.F.Files.seen c.args.files.now) c.args.prepare.now.input.now in
    found c.in-Some.set c.in-Some.ensures.found (held c.in_default-check_length.ensures (behind c.read_front.ensures.only (found c.in-Ok.input.items
    (λ told. c.in-Ok.ensures.front told ∙ ap (λ (n : ℕ). take n content) c.input_limit-limit.ensures)
    (records_refused (prepare_seen c.args.prepare.now) c.in-Some.set c.in-Ok.input.items c.in-Err-prepare.error (g.F.Files.seen c.args.files.now) (g.F.Files.seen c.read_front.new.files) _ _ c.refuse_records-in-Err-prepare.result
    c.in_default-check_length.ensures c.in-Err-prepare.ensures c.refuse_records-in-Err-prepare.ensures))))
