use Rattle.tool_files.specs.Inputs.{SpellsState}
use Rattle.tool_files.proofs.ReadingKinds.{kind_refused, state_of_one}
use Rattle.tool_files.proofs.frames.read_state.Goals as goal

pub returns-clause-reads : goal.returns-clause-reads
returns-clause-reads g c = kind_refused 32 SpellsState (g.F.Files.seen c.args.files.now) (g.F.Files.seen c.read_frame.new.files) c.args.name.now c.in-Err.error state_of_one c.in-Err.ensures.reads
