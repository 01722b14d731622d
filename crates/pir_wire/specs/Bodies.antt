-- What bytes are the body of.
use Rattle.std.specs.Prelude.{ℕ, List, ◌≡◌}
use Rattle.spiral_sets.specs.declared.param_set.ParamSet.{ParamSet}
use Rattle.frame_headers.specs.declared.kind.FrameKind.{FrameKind}
use Rattle.frame_headers.specs.declared.kind.FrameKind.TheVariants.{Setup, Query, Reply, State}
use Rattle.spiral_frames.specs.Frames.{Message, IsMessage, set_of_message, body_of}

-- the bytes are the body of the frame of this message, of that set
pub record IsBodyOf (set : ParamSet) (body : List ℕ) (message : Message) : Type 0 where
  pub set_is : set_of_message message ≡ set
  pub kept : IsMessage message
  pub spelled : body ≡ body_of message

-- The kinds that are read here: each message of such a kind and of one set has a body of one length, `body_len_of` of both.
abbrev pub HasOneLength : FrameKind → Type 0
HasOneLength Setup = Unit {0}
HasOneLength Query = Unit {0}
HasOneLength Reply = Unit {0}
HasOneLength State = Unit {0}
HasOneLength _ = ⊥
