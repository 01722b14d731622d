use Rattle.tool_files.specs.Inputs.{SpellsAnswer}
use Rattle.tool_files.proofs.ReadingKinds.{kind_refused, answer_of_one}
use Rattle.tool_files.proofs.frames.read_answer.Goals as goal

pub returns-clause-reads : goal.returns-clause-reads
returns-clause-reads g c = kind_refused 24 SpellsAnswer (g.F.Files.seen c.args.files.now) (g.F.Files.seen c.read_frame.new.files) c.args.name.now c.in-Err.error answer_of_one c.in-Err.ensures.reads
