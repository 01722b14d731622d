use Rattle.frame_streams.proofs.spelled_once.Goals as goal
use Rattle.frame_streams.proofs.Spelled.{spelled_once}

pub returns : goal.returns
returns c = spelled_once
