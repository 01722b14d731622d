use Rattle.std.proofs.Common.{arith}
use Rattle.std.proofs.lemmas.List.Elements.{All-same}
use Rattle.spiral_model.specs.Replies.{IsTernary}
use Rattle.regev_code.proofs.Samples.{secret_all, secret_numbers-ternary}
use Rattle.regev_code.proofs.sampling.secret_part.Goals as goal

pub returns-clause-value : goal.returns-clause-value
returns-clause-value c =
    secret_all c.args.words.now c.args.start c.loop-k.out _ (omega arith) (λ k h. c.loop-k.invariant k (omega arith))

pub returns-clause-ternary : goal.returns-clause-ternary
returns-clause-ternary c = All-same IsTernary _ _ (returns-clause-value c) (secret_numbers-ternary _ c.args.words.now c.args.start)
