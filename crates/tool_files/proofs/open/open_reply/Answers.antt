use Rattle.std.proofs.Common.{◌≡◌, ◌∙◌, refl, ap, sym, subst, arith}
use Rattle.spiral_sets.specs.declared.param_set.ParamSet.{ParamSet}
use Rattle.spiral_model.specs.Sets.{IsSet, name_of}
use Rattle.tool_base.specs.Outputs.{one}
use Rattle.tool_base.specs.Steps.{scene}
use Rattle.tool_base.specs.Texts.{record_line, wrong_set_line, absent_line}
use Rattle.tool_base.proofs.Courses.{held, denied, write_as, refused_as}
use Rattle.tool_files.proofs.open.open_reply.Goals as goal

pub refuse_set-requires-clause-expected : goal.refuse_set-requires-clause-expected
refuse_set-requires-clause-expected g c = subst IsSet (sym (rw c.in-Err-WrongSet.field-0-is at c.in-Err-WrongSet.ensures.opens).0) c.requires.state.known

pub refuse_set-requires-clause-found : goal.refuse_set-requires-clause-found
refuse_set-requires-clause-found g c = subst IsSet (sym (rw c.in-Err-WrongSet.field-0-is at c.in-Err-WrongSet.ensures.opens).1) c.requires.reply.known

pub returns-in-Err-WrongSet : goal.returns-in-Err-WrongSet
returns-in-Err-WrongSet g c =
    let opened = rw c.in-Err-WrongSet.field-0-is at c.in-Err-WrongSet.ensures.opens in
    let line_is : wrong_set_line (name_of c.in-Err-WrongSet.expected) (name_of c.in-Err-WrongSet.found) ≡ wrong_set_line (name_of c.args.state.now.set) (name_of c.args.reply.now.set) =
    ap (λ (a : ParamSet). wrong_set_line (name_of a) (name_of c.in-Err-WrongSet.found)) opened.0 ∙ ap (λ (b : ParamSet). wrong_set_line (name_of c.args.state.now.set) (name_of b)) opened.1 in
    denied opened.2 refl (refused_as _ _ _ _ _ _ line_is c.refuse_set.ensures)

pub returns-in-Err-Absent : goal.returns-in-Err-Absent
returns-in-Err-Absent g c =
    let opened = rw c.in-Err-Absent.field-0-is at c.in-Err-Absent.ensures.opens in
    let line_is : absent_line c.in-Err-Absent.index c.in-Err-Absent.count ≡ absent_line c.args.state.now.index c.args.reply.now.count =
    ap (λ i. absent_line i c.in-Err-Absent.count) opened.1 ∙ ap (λ k. absent_line c.args.state.now.index k) opened.2 in
    held opened.0 (denied (λ below. omega (arith, below, opened.1, opened.2, opened.3)) refl (refused_as _ _ _ _ _ _ line_is (c.refuse_by_text.ensures _ c.absent_text.ensures)))

pub returns-in-Ok : goal.returns-in-Ok
returns-in-Ok g c =
    let opened = c.in-Ok.ensures.opens in
    held opened.0 (held opened.1 (write_as _ _ _ _ (scene (g.F.Files.seen c.args.files.now) (g.F.Files.seen c.write_record.new.files) (g.O.Sink.seen c.args.sink.now) (g.O.Sink.seen c.write_record.new.sink)) _
    (ap (one c.args.out.now) (c.deref.ensures.value ∙ opened.2)) (ap record_line c.length.ensures.value) c.write_record.ensures))
