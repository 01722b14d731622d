use Rattle.std.proofs.Common.{◌<◌, get_or, map}
use Rattle.negacyclic.proofs.Filled.{FilledWith}
use Rattle.spiral_model.specs.Replies.{switched as switched_to}
use Rattle.modulus_switch.proofs.switch.switch_all.Given as goal

abbrev pub invariant-loop-k : goal.invariant-loop-k
invariant-loop-k l = FilledWith (λ x. x < l.m) (λ k. get_or (map (switched_to l.m) l.initial.numbers) k 0) l.initial.numbers l.k l.numbers
