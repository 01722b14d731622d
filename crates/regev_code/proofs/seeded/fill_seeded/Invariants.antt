use Rattle.std.proofs.Common.{◌≡◌, ℕ, ◌<◌, get_or}
use Rattle.spiral_model.specs.Sampling.{seeded_word}
use Rattle.regev_code.proofs.Streams.{stream_at}
use Rattle.regev_code.proofs.seeded.fill_seeded.Given as goal

abbrev pub invariant-loop-i : goal.invariant-loop-i
invariant-loop-i l = (l.stream ≡ stream_at l.seed l.i) × ((k : ℕ) → k < l.i → get_or l.out k 0 ≡ seeded_word l.seed k)
