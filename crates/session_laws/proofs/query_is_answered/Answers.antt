use Rattle.session_laws.proofs.Answered.{query_is_answered}
use Rattle.session_laws.proofs.query_is_answered.Goals as goal

pub returns : goal.returns
returns c = query_is_answered
