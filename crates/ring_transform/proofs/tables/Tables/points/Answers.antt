use Rattle.std.proofs.Common.{◌≡◌, ◌<◌, ◌^◌, ◌%◌, ◌-◌, ℕ, ◌∙◌, subst}
use Rattle.std.specs.List.{All}
use Rattle.std.proofs.lemmas.List.Elements.{All-same}
use Rattle.ring_transform.specs.Points.{points}
use Rattle.ring_transform.proofs.Whole.{points-powers, points-below}
use Rattle.ring_transform.proofs.tables.Tables.points.Goals as goal

pub returns-clause-powers : goal.returns-clause-powers
returns-clause-powers g c =
    let own = c.self.invariant in
    All-same (λ (z : ℕ). z ^ c.args.self.now % g.row.P ≡ g.row.P - 1) _ _ (c.deref.ensures.value ∙ own.at_points)
    (subst (λ (n : ℕ). All (λ (z : ℕ). z ^ n % g.row.P ≡ g.row.P - 1) (points g.row.P c.self.inside.degree)) c.self.view_is (points-powers g.row.P c.self.inside.degree own.prime own.degree))

pub returns-clause-residues : goal.returns-clause-residues
returns-clause-residues g c =
    let own = c.self.invariant in
    All-same (λ (z : ℕ). z < g.row.P) _ _ (c.deref.ensures.value ∙ own.at_points) (points-below g.row.P c.self.inside.degree own.prime)
