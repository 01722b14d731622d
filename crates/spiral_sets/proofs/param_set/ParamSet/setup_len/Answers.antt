use Rattle.spiral_sets.proofs.EachSet.{setup_len_at}
use Rattle.spiral_sets.proofs.param_set.ParamSet.setup_len.Goals as goal

pub returns : goal.returns
returns c = setup_len_at c.args.self.now c.requires _
