-- An input that has to be one frame.
use Rattle.std.specs.Prelude.{ℕ, true, List, ◌≡◌}
use Rattle.frame_headers.specs.Kinds.{code_of_kind}
use Rattle.frame_headers.specs.Checks.{accepts}
use Rattle.spiral_frames.specs.Frames.{Message, Spell, kind_of}

-- The input is one whole frame of an accepted kind, and this is its message.
pub record IsOneOf (kinds : ℕ) (input : List ℕ) (message : Message) : Type 0 where
  pub accepted : accepts kinds (code_of_kind (kind_of message)) ≡ true
  pub spells : Spell message input
