use Rattle.spiral_sets.proofs.EachSet.{words_needed_at}
use Rattle.spiral_sets.proofs.param_set.ParamSet.words_needed.Goals as goal

pub returns : goal.returns
returns c = words_needed_at c.args.self.now c.requires _
