use Rattle.std.proofs.Common.{string_bytes, arith}
use Rattle.tool_base.proofs.WordForms.{asked_at}
use Rattle.tool_base.proofs.words.answering.Answer.from_args.Goals as goal

pub returns-in_err-count_to : goal.returns-in_err-count_to
returns-in_err-count_to c =
    rw c.from_residual.ensures (λ said form same. c.in_err-count_to.ensures said.workers (form.0, form.1, asked_at string_bytes c.args.args.now 4 c.workers-item.is c.as_str-5.ensures.value (omega arith) same))
