use Rattle.std.proofs.Common.{◌≡◌, ℕ, ◌+◌, ◌*◌, ◌<◌, get_or}
use Rattle.spiral_model.specs.Sampling.{uniform_number}
use Rattle.regev_code.proofs.sampling.uniform_part.Given as goal

abbrev pub invariant-loop-k : goal.invariant-loop-k
invariant-loop-k l = (k : ℕ) → k < l.k → get_or l.out k 0 ≡ uniform_number (get_or l.words (l.start + 2 * k) 0) (get_or l.words (l.start + 2 * k + 1) 0)
