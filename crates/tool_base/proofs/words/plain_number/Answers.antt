use Rattle.std.proofs.Common.{◌≡◌, ◌≤◌, ◌≢◌, length, get_or, arith, ⊎_elim}
use Rattle.std.proofs.lemmas.Str.Pattern.{starts_char}
use Rattle.tool_base.proofs.WordForms.{plus_is_none, zeros_are_none, parsed_is}
use Rattle.tool_base.proofs.words.plain_number.Goals as goal

pub returns-then-starts_with : goal.returns-then-starts_with
returns-then-starts_with c =
    plus_is_none c.args.word.now ((starts_char 43 c.args.word.now c.starts_with.result c.starts_with.ensures.cases (omega arith) (omega arith)).0 c.if-starts_with.true)

pub returns-then-word-gt1 : goal.returns-then-word-gt1
returns-then-word-gt1 c =
    zeros_are_none c.args.word.now ((starts_char 48 c.args.word.now c.starts_with-2.result c.starts_with-2.ensures.cases (omega arith) (omega arith)).0 c.if-starts_with-2.true) (omega arith)

pub returns : goal.returns
returns c =
    let plus = starts_char 43 c.args.word.now c.starts_with.result c.starts_with.ensures.cases (omega arith) (omega arith) in
    let zero = starts_char 48 c.args.word.now c.starts_with-2.result c.starts_with-2.ensures.cases (omega arith) (omega arith) in
    let has_plus : get_or c.args.word.now 0 0 ≢ 43 = λ e. let t = plus.1 e in cc in
    let zeros : get_or c.args.word.now 0 0 ≡ 48 → length c.args.word.now ≤ 1 = λ e. ⊎_elim (λ short. short.1) (λ not. let t = zero.1 e in cc) c.else-starts_with-2.either in
    rw c.ok.ensures.value (parsed_is c.args.word.now c.parse.result c.parse.ensures.value.0 has_plus zeros)
