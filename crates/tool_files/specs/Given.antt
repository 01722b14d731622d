-- What is known of inputs that were read: of a setup, of one with which a database answers, and of what a server sent.
use Rattle.std.specs.Prelude.{◌≡◌, false, Option, Some, None}
use Rattle.spiral_sets.specs.declared.param_set.ParamSet.{ParamSet}
use Rattle.spiral_model.specs.Sets.{has_keys}
use Rattle.spiral_model.specs.Bodies.{CipherBody, IsSetup}
use Rattle.spiral_model.specs.Replies.{IsReply}
use Rattle.tool_files.specs.declared.peer_answer.PeerAnswer.{PeerAnswer}
use Rattle.tool_files.specs.declared.peer_answer.PeerAnswer.TheVariants as peer

-- read for a set: keys in their number and shape, maybe those of another set; none only where the set has none
abbrev pub IsRead : ParamSet → Option CipherBody → Type 0
IsRead set (Some keys) = IsSetup keys
IsRead set None = has_keys set ≡ false

-- the keys of that set itself, or none where it has none
abbrev pub IsGiven : ParamSet → Option CipherBody → Type 0
IsGiven set (Some keys) = (keys.set ≡ set) × IsSetup keys
IsGiven set None = has_keys set ≡ false

-- a reply in its shape, or a refusal
abbrev pub IsAnswer : PeerAnswer → Type 0
IsAnswer (peer.Reply reply) = IsReply reply
IsAnswer (peer.Refuse code place) = Unit {0}
