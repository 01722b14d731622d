use Rattle.negacyclic.proofs.Filled.{Filled}
use Rattle.modulus_switch.specs.Numbers.{opened_number}
use Rattle.modulus_switch.proofs.open.open_numbers.Given as goal

abbrev pub invariant-loop-k : goal.invariant-loop-k
invariant-loop-k l = Filled (opened_number l.set l.secret l.mask l.b) l.initial.out l.k l.out
