use Rattle.std.proofs.Common.{◌≡◌, ℕ, ◌<◌, ◌^◌, get_or}
use Rattle.negacyclic.specs.Digits.{number_of, digit}
use Rattle.bit_packing.proofs.pack.Given as goal

abbrev pub invariant-loop-k : goal.invariant-loop-k
invariant-loop-k l = (i : ℕ) → i < l.k → get_or l.out i 0 ≡ digit 256 i (number_of (2 ^ l.width) l.values)
