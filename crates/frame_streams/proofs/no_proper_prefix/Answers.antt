use Rattle.frame_streams.proofs.no_proper_prefix.Goals as goal
use Rattle.frame_streams.proofs.Spelled.{no_proper_prefix}

pub returns : goal.returns
returns c = no_proper_prefix
