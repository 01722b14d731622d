use Rattle.std.proofs.Common.{◌∙◌, ap, length}
use Rattle.regev_code.proofs.Samples.{length-secret_poly}
use Rattle.regev_code.proofs.secret.Key.poly.Goals as goal

pub returns-clause-degree : goal.returns-clause-degree
returns-clause-degree c = ap length c.self.invariant.1 ∙ length-secret_poly _ _ ∙ ap length c.self.view_is
