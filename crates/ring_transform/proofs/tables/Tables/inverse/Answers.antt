use Rattle.std.proofs.Common.{◌≡◌, ℕ, length, ◌∙◌, sym, ap, subst, arith}
use Rattle.ring_transform.specs.Points.{IsDegree, points}
use Rattle.ring_transform.specs.Values.{values}
use Rattle.ring_transform.proofs.Composed.{inverse_whole, scaled_places}
use Rattle.ring_transform.proofs.Whole.{values_determine}
use Rattle.ring_transform.proofs.tables.Tables.inverse.Goals as goal

pub returns-clause-values : goal.returns-clause-values
returns-clause-values g c =
    let own = c.self.invariant in
    let size : length c.args.a.now ≡ c.self.inside.degree = c.requires.size ∙ sym c.self.view_is in
    ap (λ (n : ℕ). values g.row.P (points g.row.P n) c.scale.new.a) (sym c.self.view_is)
    ∙ inverse_whole g.row.P c.self.inside.degree c.layers_of-layers.result c.self.inside.scale c.args.a.now c.join_fours.new.a c.join.new.a c.scale.new.a own.prime own.degree c.layers_of-layers.ensures.depth
    (omega (arith, size)) size c.requires.residues own.unit
    (scaled_places g.row.P c.self.inside.degree c.self.inside.scale c.join.new.a c.scale.new.a own.prime (omega (arith, size)) c.scale.ensures.value)
    c.join_fours.ensures.remainders c.join.ensures.remainders

pub returns-clause-only : goal.returns-clause-only
returns-clause-only g c =
    λ b size_b below_b values_b.
    let own = c.self.invariant in
    let degree = subst IsDegree c.self.view_is own.degree in
    values_determine g.row.P c.args.self.now b c.scale.new.a own.prime degree size_b (omega (arith, c.requires.size)) below_b c.scale.ensures.residues
    (values_b ∙ sym (returns-clause-values g c))
