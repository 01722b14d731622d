use Rattle.tool_serve.proofs.NextSession.{served_next}
use Rattle.tool_serve.proofs.sessions_served.serve_next.Goals as goal

pub returns-in-Ok-clause-serves : goal.returns-in-Ok-clause-serves
returns-in-Ok-clause-serves g c = served_next _ _ _ _ _ _ c.in-Ok.ensures c.session-end.ensures.ends c.end-closed.ensures
