use Rattle.std.proofs.Common.{◌≡◌, ◌-◌, ◌*◌, ◌/◌, ◌^◌, ◌≤◌, take}
use Rattle.negacyclic.specs.Residues.{norm}
use Rattle.spiral_sets.specs.Sets.{q}
use Rattle.word_prime.specs.Halves.{joined}
use Rattle.ring_poly.proofs.pairs.norm1.Given as goal

abbrev pub invariant-loop-k : goal.invariant-loop-k
invariant-loop-k l = record { value : l.sum ≡ norm q (take l.k (joined l.ones l.twos)); half : l.sum ≤ l.k * ((q - 1) / 2); size : l.sum ≤ l.k * 2 ^ 56 }
