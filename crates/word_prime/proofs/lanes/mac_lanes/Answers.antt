use Rattle.std.proofs.Common.{ℕ, ◌+◌, ◌*◌, get_or, arith}
use Rattle.negacyclic.proofs.Filled.{filled_all}
use Rattle.word_prime.specs.Lanes.{accumulated}
use Rattle.word_prime.proofs.lanes.mac_lanes.Goals as goal

pub returns-clause-value : goal.returns-clause-value
unfolding accumulated
returns-clause-value g c =
    filled_all (λ (k : ℕ). get_or c.args.sums.now k 0 + get_or c.args.a.now k 0 * get_or c.args.b.now k 0) c.args.sums.now c.loop-i.i c.loop-i.sums (omega arith) c.loop-i.invariant
