use Rattle.std.proofs.Common.{◌<◌, arith}
use Rattle.std.proofs.lemmas.List.Elements.{All-same}
use Rattle.spiral_model.specs.Sets.{q}
use Rattle.regev_code.proofs.Samples.{poly_all, secret_poly-below}
use Rattle.regev_code.proofs.sampling.secret_residues.Goals as goal

pub returns-clause-value : goal.returns-clause-value
returns-clause-value c =
    poly_all c.args.numbers.now c.loop-k.out _ (omega arith) (λ k h. c.loop-k.invariant k (omega arith))

pub returns-clause-residues : goal.returns-clause-residues
returns-clause-residues c = All-same (λ x. x < q) _ _ (returns-clause-value c) (secret_poly-below _ c.args.numbers.now)
