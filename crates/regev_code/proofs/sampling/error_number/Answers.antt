use Rattle.regev_code.proofs.Samples.{error_read}
use Rattle.regev_code.proofs.sampling.error_number.Goals as goal

pub returns-clause-value : goal.returns-clause-value
returns-clause-value c = error_read c.args.word
