use Rattle.std.proofs.Common.{List, ◌<◌, length, sym, subst}
use Rattle.std.proofs.lemmas.List.{length-map}
use Rattle.tool_base.specs.declared.output.Output.{Output as Given}
use Rattle.tool_base.specs.Outputs.{output_seen, outputs_seen}
use Rattle.tool_base.proofs.Courses.{written, not_written, stopped_writing}
use Rattle.tool_base.proofs.lines.write_and_finish.Goals as goal

seen_some : (outputs : List Given) → 0 < length outputs → 0 < length (outputs_seen outputs)
seen_some outputs some = subst (λ n. 0 < n) (sym (length-map outputs output_seen)) some

pub returns-in-Ok : goal.returns-in-Ok
returns-in-Ok g c = written _ _ _ _ _ (seen_some c.args.outputs.now c.requires) c.args.line.now c.finish.result c.in-Ok.ensures c.finish.ensures

pub returns-in-Err-Failed : goal.returns-in-Err-Failed
returns-in-Err-Failed g c = not_written _ _ _ _ _ (seen_some c.args.outputs.now c.requires) c.args.line.now c.refuse.result (rw c.in-Err-Failed.field-0-is at c.in-Err-Failed.ensures) c.refuse.ensures

pub returns-in-Err-NoMemory : goal.returns-in-Err-NoMemory
returns-in-Err-NoMemory g c = stopped_writing _ _ _ _ c.args.line.now (rw c.in-Err-NoMemory.field-0-is at c.in-Err-NoMemory.ensures)
