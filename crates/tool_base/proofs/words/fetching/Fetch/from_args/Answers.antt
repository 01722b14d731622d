use Rattle.std.proofs.Common.{string_bytes, sym, ◌∙◌, arith}
use Rattle.tool_base.specs.Sources.{NamesSource, source_seen}
use Rattle.tool_base.specs.Words.{IsNumber}
use Rattle.tool_base.proofs.WordForms.{all_words, asked_at, word_at, ◌next◌}
use Rattle.tool_base.proofs.words.fetching.Fetch.from_args.Goals as goal

pub returns-in_err-plain_number : goal.returns-in_err-plain_number
returns-in_err-plain_number c =
    rw c.from_residual.ensures (λ said form same. c.in_err-plain_number.ensures said.index (form.0, asked_at string_bytes c.args.args.now 2 c.index-item.is c.as_str-3.ensures.value (omega arith) same))

pub returns-in_err-from_word : goal.returns-in_err-from_word
returns-in_err-from_word c =
    rw c.from_residual-in_err-from_word.ensures (λ said form same. c.in_err-from_word.ensures said.source (form.1, asked_at string_bytes c.args.args.now 3 c.source-item.is c.as_str-4.ensures.value (omega arith) same))

pub returns : goal.returns
returns c =
    let number : IsNumber c.as_str-3.result.now c.in_ok-plain_number.field-0 = c.in_ok-plain_number.ensures in
    let source : NamesSource c.as_str-4.result.now (source_seen c.in_ok-from_word.field-0) = c.in_ok-from_word.ensures in (
      (number.0, source.0),
      all_words _ _ _ (omega arith)
          (word_at string_bytes c.args.args.now 0 c.addr-item.is c.as_str.ensures.value (omega arith)
          next word_at string_bytes c.args.args.now 1 c.set-item.is c.as_str-2.ensures.value (omega arith)
          next sym number.1 ∙ word_at string_bytes c.args.args.now 2 c.index-item.is c.as_str-3.ensures.value (omega arith)
          next sym source.1 ∙ word_at string_bytes c.args.args.now 3 c.source-item.is c.as_str-4.ensures.value (omega arith)
          next word_at string_bytes c.args.args.now 4 c.out-item.is c.as_str-5.ensures.value (omega arith)
          next tt),
    )
