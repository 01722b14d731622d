use Rattle.std.proofs.Common.{◌≡◌, ◌^◌, take}
use Rattle.negacyclic.specs.Digits.{number_of}
use Rattle.bit_packing.proofs.number_of_values.Given as goal

abbrev pub invariant-loop-k : goal.invariant-loop-k
invariant-loop-k l = l.number ≡ number_of (2 ^ l.width) (take l.k l.values)
