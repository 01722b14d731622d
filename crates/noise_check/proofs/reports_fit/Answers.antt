use Rattle.noise_check.proofs.FittingRows.{reports_fit}
use Rattle.noise_check.proofs.reports_fit.Goals as goal

pub returns : goal.returns
returns c = reports_fit
