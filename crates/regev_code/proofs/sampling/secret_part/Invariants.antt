use Rattle.std.proofs.Common.{◌≡◌, ℕ, ◌+◌, ◌<◌, pos, get_or}
use Rattle.spiral_model.specs.Sampling.{secret_number}
use Rattle.regev_code.proofs.sampling.secret_part.Given as goal

abbrev pub invariant-loop-k : goal.invariant-loop-k
invariant-loop-k l = (k : ℕ) → k < l.k → get_or l.out k (pos 0) ≡ secret_number (get_or l.words (l.start + k) 0)
