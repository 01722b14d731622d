use Rattle.std.proofs.Common.{sym, subst}
use Rattle.regev_code.specs.Seen.{Secrets}
use Rattle.regev_code.specs.Shapes.{OfDegree}
use Rattle.regev_code.proofs.Secrets.{secrets_from-degree}
use Rattle.regev_code.proofs.draw.draw_secret.Goals as goal

pub returns-clause-degree : goal.returns-clause-degree
returns-clause-degree c =
    subst (λ (secrets : Secrets). OfDegree c.args.set.now.degree secrets) (sym c.in_ok-secret.ensures)
    (secrets_from-degree c.args.set.now _ _)
