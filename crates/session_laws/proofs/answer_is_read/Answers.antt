use Rattle.session_laws.proofs.Answered.{answer_is_read}
use Rattle.session_laws.proofs.answer_is_read.Goals as goal

pub returns : goal.returns
returns c = answer_is_read
