-- A reply into which a result is switched.
use Rattle.std.specs.Prelude.{List}
use Rattle.spiral_sets.specs.declared.param_set.ParamSet.{ParamSet}
use Rattle.spiral_model.specs.Words.{Cipher}
use Rattle.spiral_model.specs.Replies.{SwitchedReply, switched_body, switched_mask}

-- the reply with its numbers switched from these columns
abbrev pub switched_from : ParamSet → SwitchedReply → List Cipher → SwitchedReply
switched_from set reply columns = record reply { body = switched_body set columns; mask = switched_mask set columns }
