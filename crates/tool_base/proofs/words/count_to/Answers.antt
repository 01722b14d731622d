use Rattle.std.proofs.Common.{arith}
use Rattle.tool_base.proofs.WordForms.{not_counted}
use Rattle.tool_base.proofs.words.count_to.Goals as goal

pub returns-in_default : goal.returns-in_default
returns-in_default c = not_counted c.args.most c.args.word.now c.in-Some.number (omega arith) c.in-Some.ensures (λ some few. omega (arith, few, c.if-number-most.false))

pub returns-in_default-2 : goal.returns-in_default-2
returns-in_default-2 c = not_counted c.args.most c.args.word.now c.in-Some.number (omega arith) c.in-Some.ensures (λ some few. omega (arith, c.if-number-ge1.false))
