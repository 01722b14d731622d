use Rattle.tool_base.proofs.WritingAll.{written_here, stopped_here}
use Rattle.tool_base.proofs.output.write_outputs.Goals as goal

pub returns-in_err-write_file : goal.returns-in_err-write_file
returns-in_err-write_file g c = stopped_here _ _ _ c.args.outputs.now c.loop-output.output-index _ c.loop-output-test.true c.loop-output.invariant c.in_err-write_file.field-0.0 c.from_residual.result c.in_err-write_file.ensures c.from_residual.ensures.1

pub loop-output-preserved : goal.loop-output-preserved
loop-output-preserved g c = written_here _ _ _ c.args.outputs.now c.loop-output.output-index _ c.loop-output-test.true c.loop-output.invariant c.in_ok-write_file.ensures
