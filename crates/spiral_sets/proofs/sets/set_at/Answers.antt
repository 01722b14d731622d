use Rattle.std.proofs.lemmas.List.Elements.{Contains-get_or}
use Rattle.spiral_sets.specs.declared.sets.TheConstants.{SETS}
use Rattle.spiral_sets.proofs.sets.set_at.Goals as goal

pub returns-clause-is_set : goal.returns-clause-is_set
returns-clause-is_set c = Contains-get_or SETS c.args.i _ c.requires
