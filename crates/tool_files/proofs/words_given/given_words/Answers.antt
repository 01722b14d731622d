use Rattle.std.proofs.Common.{refl}
use Rattle.tool_base.proofs.Courses.{denied}
use Rattle.tool_files.proofs.words_given.given_words.Goals as goal

pub returns-in_default : goal.returns-in_default
returns-in_default g c = denied c.in_default.ensures.none refl c.refuse.ensures
