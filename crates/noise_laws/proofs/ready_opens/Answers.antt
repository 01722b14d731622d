use Rattle.noise_laws.proofs.Opening.{ready_opens as reply_opens}
use Rattle.noise_laws.proofs.ready_opens.Goals as goal

pub returns : goal.returns
returns c = reply_opens
