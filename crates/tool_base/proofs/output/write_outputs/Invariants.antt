use Rattle.std.proofs.Common.{take}
use Rattle.tool_base.specs.Outputs.{outputs_seen}
use Rattle.tool_base.proofs.WritingAll.{WroteFirst}
use Rattle.tool_base.proofs.output.write_outputs.Given as goal

abbrev pub invariant-loop-output : goal.invariant-loop-output
invariant-loop-output g l = WroteFirst (g.F.Files.seen l.fn.files) (g.F.Files.seen l.files) (outputs_seen (take l.output-index l.outputs))
