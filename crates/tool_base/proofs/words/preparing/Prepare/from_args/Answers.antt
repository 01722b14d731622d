use Rattle.std.proofs.Common.{string_bytes, sym, ◌∙◌, arith}
use Rattle.tool_base.specs.Words.{IsNumber}
use Rattle.tool_base.proofs.WordForms.{asked_at, all_words, word_at, ◌next◌}
use Rattle.tool_base.proofs.words.preparing.Prepare.from_args.Goals as goal

pub returns-in_err-plain_number : goal.returns-in_err-plain_number
returns-in_err-plain_number c =
    rw c.from_residual.ensures (λ said form same. c.in_err-plain_number.ensures said.record_length (form, asked_at string_bytes c.args.args.now 1 c.length-item.is c.as_str-2.ensures.value (omega arith) same))

pub returns : goal.returns
returns c =
    let number : IsNumber c.as_str-2.result.now c.in_ok-plain_number.field-0 = c.in_ok-plain_number.ensures in (
      number.0,
      all_words _ _ _ (omega arith)
          (word_at string_bytes c.args.args.now 0 c.set-item.is c.as_str.ensures.value (omega arith)
          next sym number.1 ∙ word_at string_bytes c.args.args.now 1 c.length-item.is c.as_str-2.ensures.value (omega arith)
          next word_at string_bytes c.args.args.now 2 c.input-item.is c.as_str-3.ensures.value (omega arith)
          next word_at string_bytes c.args.args.now 3 c.db-item.is c.as_str-4.ensures.value (omega arith)
          next tt),
    )
