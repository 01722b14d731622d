use Rattle.std.proofs.Common.{◌≡◌, length, replicate, arith}
use Rattle.ring_poly.proofs.Summed.{HoldsSum, cleared, holds_again}
use Rattle.ring_poly.proofs.sums.SumT.clear.Goals as goal

holds : (c : goal.After-self-3-1) → HoldsSum (replicate (length c.args.self.now.value) 0) 0 c.clear.new.sums c.clear-2.new.sums
holds c =
    cleared c.args.self.now c.self.inside.ones.items c.self.inside.twos.items c.deref_mut.result.now c.deref_mut-2.result.now c.clear.new.sums c.clear-2.new.sums c.self.inside.count
    c.self.view_is c.self.invariant c.deref_mut.ensures.value c.deref_mut-2.ensures.value c.clear.ensures c.clear-2.ensures

pub invariant_of-self : goal.invariant_of-self
invariant_of-self c = (holds_again _ 0 c.self.inside.ones.len c.self.inside.twos.len c.clear.new.sums c.clear-2.new.sums _ _ (omega arith) (omega arith) (holds c)).valid

pub returns : goal.returns
returns c = (holds_again _ 0 c.self.inside.ones.len c.self.inside.twos.len c.clear.new.sums c.clear-2.new.sums _ _ (omega arith) (omega arith) (holds c)).view
