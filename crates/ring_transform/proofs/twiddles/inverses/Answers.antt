use Rattle.std.proofs.Common.{◌≡◌, ℕ, suc, ◌*◌, ◌^◌, ◌<◌, ◌∙◌, ap, arith, add-one}
use Rattle.std.proofs.lemmas.Nat.{one_shl}
use Rattle.ring_transform.specs.Points.{inverse_node}
use Rattle.ring_transform.proofs.Nodes.{inverse_node-below_from}
use Rattle.ring_transform.proofs.Entries.{below_more, entries_more, entry_count}
use Rattle.ring_transform.proofs.twiddles.inverses.Goals as goal

pub loop-j-preserved : goal.loop-j-preserved
loop-j-preserved g c =
    let narrow : c.loop-d.d < 64 = omega arith in
    let place : c.loop-j.j < 2 ^ c.loop-d.d = omega (arith, one_shl c.loop-d.d 64 narrow) in
    let is : c.inverse_node.result ≡ inverse_node g.row.P (suc c.loop-d.d) (2 * c.loop-j.j) = c.inverse_node.ensures ∙ ap (λ (n : ℕ). inverse_node g.row.P n (2 * c.loop-j.j)) (add-one c.loop-d.d) in
    record {
      count = entry_count (2 ^ c.loop-d.d) c.loop-j.j c.loop-j.table.items c.push.new.self.items c.inverse_node.result c.loop-j.invariant.count c.in_ok-push.ensures.items;
      entries = entries_more (λ (d j : ℕ). inverse_node g.row.P (suc d) (2 * j)) c.loop-d.d c.loop-j.j c.loop-j.table.items c.push.new.self.items c.inverse_node.result place c.loop-j.invariant.count c.in_ok-push.ensures.items is c.loop-j.invariant.entries;
      below = below_more g.row.P c.loop-j.table.items c.push.new.self.items c.inverse_node.result c.in_ok-push.ensures.items (inverse_node-below_from g.row.P (suc c.loop-d.d) (2 * c.loop-j.j) c.inverse_node.result c.requires.prime is) c.loop-j.invariant.below;
    }
