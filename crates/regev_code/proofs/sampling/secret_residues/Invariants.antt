use Rattle.std.proofs.Common.{◌≡◌, ℕ, ◌<◌, pos, get_or}
use Rattle.negacyclic.specs.Residues.{residue}
use Rattle.spiral_model.specs.Sets.{q}
use Rattle.regev_code.proofs.sampling.secret_residues.Given as goal

abbrev pub invariant-loop-k : goal.invariant-loop-k
invariant-loop-k l = (k : ℕ) → k < l.k → get_or l.out k 0 ≡ residue q (get_or l.numbers k (pos 0))
