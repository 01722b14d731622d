use Rattle.std.proofs.Common.{◌≡◌, ◌∙◌}
use Rattle.tool_base.specs.Steps.{scene}
use Rattle.tool_base.specs.Texts.{record_line}
use Rattle.tool_base.proofs.Courses.{write_as}
use Rattle.tool_local.proofs.LocalLookUp.{two_same}
use Rattle.tool_local.proofs.local.write_found.Goals as goal

pub returns : goal.returns
returns g c =
    let text_is : c.as_bytes.result.now ≡ record_line c.args.length = c.as_bytes.ensures.value ∙ c.in-Ok.ensures in
    write_as _ _ _ _ (scene (g.F.Files.seen c.args.files.now) (g.F.Files.seen c.write_and_finish.new.files) (g.O.Sink.seen c.args.sink.now) (g.O.Sink.seen c.write_and_finish.new.sink)) c.write_and_finish.result
    (two_same _ _ _ _ _ _ c.deref.ensures.value c.deref-2.ensures.value) text_is c.write_and_finish.ensures
