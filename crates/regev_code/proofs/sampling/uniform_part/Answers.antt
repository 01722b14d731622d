use Rattle.std.proofs.Common.{◌<◌, arith}
use Rattle.std.proofs.lemmas.List.Elements.{All-same}
use Rattle.spiral_model.specs.Sets.{q}
use Rattle.regev_code.proofs.Samples.{uniform_all, uniform_poly-below}
use Rattle.regev_code.proofs.sampling.uniform_part.Goals as goal

pub returns-clause-value : goal.returns-clause-value
returns-clause-value c =
    uniform_all c.args.words.now c.args.start c.loop-k.out _ (omega arith) (λ k h. c.loop-k.invariant k (omega arith))

pub returns-clause-residues : goal.returns-clause-residues
returns-clause-residues c = All-same (λ x. x < q) _ _ (returns-clause-value c) (uniform_poly-below _ c.args.words.now c.args.start)
