use Rattle.std.proofs.Common.{arith}
use Rattle.ring_poly.proofs.Held.{zeros_held, held_again}
use Rattle.ring_poly.proofs.poly.Poly.clear.Goals as goal

pub returns : goal.returns
returns c =
    held_again c.self.inside.ones.len c.self.inside.twos.len c.clear.new.a c.clear-2.new.a _ _ (omega arith) (omega arith)
    (zeros_held c.args.self.now c.self.inside.ones.items c.self.inside.twos.items c.deref_mut.result.now c.deref_mut-2.result.now c.clear.new.a c.clear-2.new.a c.self.view_is c.self.invariant
    c.deref_mut.ensures.value c.deref_mut-2.ensures.value c.clear.ensures c.clear-2.ensures)
