use Rattle.std.proofs.Common.{◌≡◌}
use Rattle.tool_base.specs.Words.{spelled_name, the_prepare, the_ask, the_answer, the_open, the_noise, the_local, the_serve, the_fetch}
use Rattle.tool_base.proofs.WordForms.{first_and_rest, none_in_form, no_name}
use Rattle.tool_base.proofs.words.Command.from_words.Goals as goal

pub returns-in_err-from_args-in-prepare : goal.returns-in_err-from_args-in-prepare
returns-in_err-from_args-in-prepare c =
    rw c.from_residual.ensures (none_in_form the_prepare (first_and_rest _ _ c.in-len1-up.len_at_least c.name-item.is c.as_str.ensures.value) c.in-prepare.is c.in_err-from_args-in-prepare.ensures)

pub returns-in_err-from_args-in-ask : goal.returns-in_err-from_args-in-ask
returns-in_err-from_args-in-ask c =
    rw c.from_residual-in_err-from_args-in-ask.ensures (none_in_form the_ask (first_and_rest _ _ c.in-len1-up.len_at_least c.name-item.is c.as_str.ensures.value) c.in-ask.is c.in_err-from_args-in-ask.ensures)

pub returns-in_err-from_args-in-answer : goal.returns-in_err-from_args-in-answer
returns-in_err-from_args-in-answer c =
    rw c.from_residual-in_err-from_args-in-answer.ensures (none_in_form the_answer (first_and_rest _ _ c.in-len1-up.len_at_least c.name-item.is c.as_str.ensures.value) c.in-answer.is c.in_err-from_args-in-answer.ensures)

pub returns-in_err-from_args-in-noise : goal.returns-in_err-from_args-in-noise
returns-in_err-from_args-in-noise c =
    rw c.from_residual-in_err-from_args-in-noise.ensures (none_in_form the_noise (first_and_rest _ _ c.in-len1-up.len_at_least c.name-item.is c.as_str.ensures.value) c.in-noise.is c.in_err-from_args-in-noise.ensures)

pub returns-in_err-from_args-in-local : goal.returns-in_err-from_args-in-local
returns-in_err-from_args-in-local c =
    rw c.from_residual-in_err-from_args-in-local.ensures (none_in_form the_local (first_and_rest _ _ c.in-len1-up.len_at_least c.name-item.is c.as_str.ensures.value) c.in-local.is c.in_err-from_args-in-local.ensures)

pub returns-in_err-from_args-in-serve : goal.returns-in_err-from_args-in-serve
returns-in_err-from_args-in-serve c =
    rw c.from_residual-in_err-from_args-in-serve.ensures (none_in_form the_serve (first_and_rest _ _ c.in-len1-up.len_at_least c.name-item.is c.as_str.ensures.value) c.in-serve.is c.in_err-from_args-in-serve.ensures)

pub returns-in_err-from_args-in-fetch : goal.returns-in_err-from_args-in-fetch
returns-in_err-from_args-in-fetch c =
    rw c.from_residual-in_err-from_args-in-fetch.ensures (none_in_form the_fetch (first_and_rest _ _ c.in-len1-up.len_at_least c.name-item.is c.as_str.ensures.value) c.in-fetch.is c.in_err-from_args-in-fetch.ensures)

pub returns-in_default-as_str : goal.returns-in_default-as_str
returns-in_default-as_str c =
    no_name (first_and_rest _ _ c.in-len1-up.len_at_least c.name-item.is c.as_str.ensures.value)
    (λ name. elim name as (λ n. c.as_str.result.now ≡ spelled_name n → ⊥) [
      | the_prepare ↦ c.in_default-as_str.not-prepare
      | the_ask ↦ c.in_default-as_str.not-ask
      | the_answer ↦ c.in_default-as_str.not-answer
      | the_open ↦ c.in_default-as_str.not-open
      | the_noise ↦ c.in_default-as_str.not-noise
      | the_local ↦ c.in_default-as_str.not-local
      | the_serve ↦ c.in_default-as_str.not-serve
      | the_fetch ↦ c.in_default-as_str.not-fetch
    ])
