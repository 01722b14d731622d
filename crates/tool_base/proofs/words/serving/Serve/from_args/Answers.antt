use Rattle.std.proofs.Common.{string_bytes, sym, ◌∙◌, arith}
use Rattle.tool_base.specs.Words.{IsCountTo}
use Rattle.tool_base.proofs.WordForms.{all_words, asked_at, word_at, ◌next◌}
use Rattle.tool_base.proofs.words.serving.Serve.from_args.Goals as goal

pub returns-in_err-count_to : goal.returns-in_err-count_to
returns-in_err-count_to c =
    rw c.from_residual.ensures (λ said form same. c.in_err-count_to.ensures said.sessions (form.0, form.1, asked_at string_bytes c.args.args.now 2 c.sessions-item.is c.as_str-3.ensures.value (omega arith) same))

pub returns-in_err-count_to-2 : goal.returns-in_err-count_to-2
returns-in_err-count_to-2 c =
    rw c.from_residual-in_err-count_to-2.ensures (λ said form same. c.in_err-count_to-2.ensures said.workers (form.2, form.3, asked_at string_bytes c.args.args.now 3 c.workers-item.is c.as_str-4.ensures.value (omega arith) same))

pub returns : goal.returns
returns c =
    let sessions : IsCountTo 1000000 c.as_str-3.result.now c.in_ok-count_to.field-0 = c.in_ok-count_to.ensures in
    let workers : IsCountTo 64 c.as_str-4.result.now c.in_ok-count_to-2.field-0 = c.in_ok-count_to-2.ensures in (
      (sessions.0, sessions.1, workers.0, workers.1),
      all_words _ _ _ (omega arith)
          (word_at string_bytes c.args.args.now 0 c.addr-item.is c.as_str.ensures.value (omega arith)
          next word_at string_bytes c.args.args.now 1 c.db-item.is c.as_str-2.ensures.value (omega arith)
          next sym sessions.2 ∙ word_at string_bytes c.args.args.now 2 c.sessions-item.is c.as_str-3.ensures.value (omega arith)
          next sym workers.2 ∙ word_at string_bytes c.args.args.now 3 c.workers-item.is c.as_str-4.ensures.value (omega arith)
          next tt),
    )
