use Rattle.std.proofs.Common.{◌≡◌, ℕ, ◌+◌, ◌<◌, get_or}
use Rattle.negacyclic.specs.Residues.{residue}
use Rattle.spiral_model.specs.Sets.{q}
use Rattle.spiral_model.specs.Sampling.{error_number}
use Rattle.regev_code.proofs.sampling.error_part.Given as goal

abbrev pub invariant-loop-k : goal.invariant-loop-k
invariant-loop-k l = (k : ℕ) → k < l.k → get_or l.out k 0 ≡ residue q (error_number (get_or l.words (l.start + k) 0))
