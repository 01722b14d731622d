use Rattle.tool_files.specs.Inputs.{SpellsSetup}
use Rattle.tool_files.proofs.ReadingKinds.{kind_refused, keys_of_one}
use Rattle.tool_files.proofs.frames.read_keys.Goals as goal

pub returns-clause-reads : goal.returns-clause-reads
returns-clause-reads g c = kind_refused 2 SpellsSetup (g.F.Files.seen c.args.files.now) (g.F.Files.seen c.read_frame.new.files) c.args.name.now c.in-Err.error keys_of_one c.in-Err.ensures.reads
