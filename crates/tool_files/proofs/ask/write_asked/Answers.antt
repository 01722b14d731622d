use Rattle.std.proofs.Common.{List, ℕ, ◌≡◌, ◌∙◌, ap, length, arith}
use Rattle.tool_base.specs.Steps.{scene}
use Rattle.tool_base.specs.Texts.{query_line}
use Rattle.tool_base.proofs.Courses.{write_as}
use Rattle.tool_files.proofs.Asking.{three_same}
use Rattle.tool_files.proofs.ask.write_asked.Goals as goal

pub returns : goal.returns
returns g c =
    let name : List ℕ = c.args.ask.now.set.now in
    let setup : ℕ = length c.args.asked.now.setup.items in
    let query : ℕ = length c.args.asked.now.query.items in
    let setup_is : c.len.result ≡ setup = omega (arith, c.len.ensures, c.args.asked.now.setup.ok) in
    let query_is : c.len-2.result ≡ query = omega (arith, c.len-2.ensures, c.args.asked.now.query.ok) in
    let text_is : c.as_bytes.result.now ≡ query_line name setup query =
    c.as_bytes.ensures.value ∙ c.in-Ok-query_text.ensures ∙ ap (λ n. query_line name n c.len-2.result) setup_is ∙ ap (λ n. query_line name setup n) query_is in
    let same = three_same _ _ _ _ _ _ _ _ _ (c.deref.ensures.value ∙ c.in-Ok.ensures) c.deref-2.ensures.value c.deref-3.ensures.value in
    write_as _ _ _ _ (scene (g.F.Files.seen c.args.files.now) (g.F.Files.seen c.write_and_finish.new.files) (g.O.Sink.seen c.args.sink.now) (g.O.Sink.seen c.write_and_finish.new.sink)) c.write_and_finish.result
    same text_is c.write_and_finish.ensures
