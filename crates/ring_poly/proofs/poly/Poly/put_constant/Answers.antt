use Rattle.std.proofs.Common.{ℕ, ◌==◌, if◌then◌else◌, pos, ◌∙◌, ap, length, arith}
use Rattle.spiral_sets.specs.Sets.{q}
use Rattle.negacyclic.proofs.Stands.{length-reduced}
use Rattle.ring_poly.proofs.Held.{function_held, held_again}
use Rattle.ring_poly.proofs.poly.Poly.put_constant.Goals as goal

pub returns-clause-value : goal.returns-clause-value
returns-clause-value c =
    held_again c.self.inside.ones.len c.self.inside.twos.len c.put_constant.new.a c.put_constant-2.new.a _ _ (omega arith) (omega arith)
    (function_held (λ (k : ℕ). if k == 0 then pos c.args.z else pos 0) c.args.self.now c.self.inside.ones.items c.self.inside.twos.items c.deref_mut.result.now c.deref_mut-2.result.now c.put_constant.new.a c.put_constant-2.new.a
    c.self.view_is c.self.invariant c.deref_mut.ensures.value c.deref_mut-2.ensures.value c.put_constant.ensures.value c.put_constant-2.ensures.value)

pub returns-clause-degree : goal.returns-clause-degree
returns-clause-degree c = ap length (returns-clause-value c) ∙ length-reduced q (length c.args.self.now) (λ (k : ℕ). if k == 0 then pos c.args.z else pos 0)
