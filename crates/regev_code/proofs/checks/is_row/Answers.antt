use Rattle.std.proofs.Common.{sym, ◌∙◌}
use Rattle.std.proofs.lemmas.Bool.{eqb-true, eq-eqb}
use Rattle.regev_code.proofs.checks.is_row.Goals as goal

pub returns : goal.returns
returns c =
    (λ h. (sym c.degree.ensures.value ∙ eqb-true _ _ h, c.degree.ensures.residues), λ p. eq-eqb _ _ (c.degree.ensures.value ∙ p.0))
