use Rattle.tool_files.specs.Inputs.{SpellsQuery}
use Rattle.tool_files.proofs.ReadingKinds.{kind_refused, query_of_one}
use Rattle.tool_files.proofs.frames.read_query.Goals as goal

pub returns-clause-reads : goal.returns-clause-reads
returns-clause-reads g c = kind_refused 4 SpellsQuery (g.F.Files.seen c.args.files.now) (g.F.Files.seen c.read_frame.new.files) c.args.name.now c.in-Err.error query_of_one c.in-Err.ensures.reads
