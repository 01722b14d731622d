use Rattle.tool_fetch.proofs.fetch.open_answer.Goals as goal

pub returns-in-Reply : goal.returns-in-Reply
returns-in-Reply g c = rw c.in-Reply.is c.open_reply.ensures
