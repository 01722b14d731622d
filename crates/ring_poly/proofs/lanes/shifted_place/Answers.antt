use Rattle.std.proofs.Common.{◌-◌, length, arith, inl, inr}
use Rattle.ring_poly.proofs.Powers.{power_plain, power_wrapped}
use Rattle.ring_poly.proofs.lanes.shifted_place.Goals as goal
use Rattle.ring_poly.proofs.lanes.shifted_place.Goals.{then-k-e, else-k-e}

pub returns-then-from-n : goal.returns-then-from-n
returns-then-from-n g c =
    power_plain g.row.P c.args.a.now c.args.e c.args.k c.if-k-e.from c.requires.place c.requires.power c.if-from-n.true c.requires.residues
    (elim c.if-k-e.branch [ then-k-e w ↦ inl (omega arith) | else-k-e w ↦ inr (omega arith) ])

pub returns-else-from-n : goal.returns-else-from-n
returns-else-from-n g c =
    elim c.if-k-e.branch [
      | then-k-e w ↦ absurd (omega arith)
      | else-k-e w ↦
          power_wrapped g.row.P c.args.a.now c.args.e c.args.k (c.if-k-e.from - length c.args.a.now) c.negated.result c.requires.place c.requires.power
          (omega arith) (omega arith) c.negated.ensures
    ]
