use Rattle.std.proofs.Common.{◌≡◌, ℕ, length, ◌∙◌, sym, ap, arith}
use Rattle.ring_transform.specs.Points.{points}
use Rattle.ring_transform.specs.Values.{values}
use Rattle.ring_transform.proofs.Composed.{forward_whole}
use Rattle.ring_transform.proofs.tables.Tables.forward.Goals as goal

pub returns-clause-values : goal.returns-clause-values
returns-clause-values g c =
    let own = c.self.invariant in
    let size : length c.args.a.now ≡ c.self.inside.degree = c.requires.size ∙ sym c.self.view_is in
    forward_whole g.row.P c.self.inside.degree c.layers_of-layers.result c.args.a.now c.part.new.a c.part_fours.new.a own.prime own.degree c.layers_of-layers.ensures.depth size (omega (arith, size)) c.part_fours.ensures.residues
    c.part.ensures.remainders c.part_fours.ensures.remainders
    ∙ ap (λ (n : ℕ). values g.row.P (points g.row.P n) c.args.a.now) c.self.view_is
