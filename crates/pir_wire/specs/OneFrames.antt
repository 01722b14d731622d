-- How contracts see an input that has to be one frame, as it comes.
use Rattle.std.specs.Prelude.{ℕ, List, [], ◌≡◌, ◌<◌, ◌^◌, length}
use Rattle.spiral_frames.specs.Frames.{frame_of}
use Rattle.spiral_frames.specs.FrameChecks.{more, front}
use Rattle.frame_streams.specs.Decoding.{Condition, refused, wanting, reading, begun, AreKinds}
use Rattle.frame_streams.specs.StreamLaws.{AreBytes}
use Rattle.frame_streams.specs.OneFrames.{IsOneOf}
use Rattle.pir_wire.specs.declared.one_frame.Stage.{Stage}
use Rattle.pir_wire.specs.declared.one_frame.Stage.TheVariants.{Open, Whole}
use Rattle.pir_wire.specs.Messages.{message_seen}

-- the kinds that are accepted, and the bytes that have come
pub record OneRead : Type 0 where
  pub kinds : ℕ
  pub bytes : List ℕ

abbrev pub bytes_at_hand : Condition → List ℕ
bytes_at_hand (reading bytes) = bytes
bytes_at_hand (refused error) = []
bytes_at_hand wanting = []

abbrev pub bytes_so_far : Stage → List ℕ
bytes_so_far (Open decoder) = bytes_at_hand decoder.condition
bytes_so_far (Whole message) = frame_of (message_seen message)

-- the frame isn't whole yet, and is being read; or these bytes are it
abbrev pub StageStands : ℕ → List ℕ → Stage → Type 0
StageStands kinds bytes (Open decoder) = (front kinds bytes ≡ more) × (decoder ≡ record (begun kinds) { condition = reading bytes })
StageStands kinds bytes (Whole message) = IsOneOf kinds bytes (message_seen message)

-- What every such input keeps: its bytes are the front of a frame, or a whole one.
pub record IsReading (kinds size : ℕ) (bytes : List ℕ) (stage : Stage) : Type 0 where
  pub are_kinds : AreKinds kinds
  pub are_bytes : AreBytes bytes
  pub size_is : size ≡ length bytes
  pub short : length bytes < 2 ^ 24
  pub stands : StageStands kinds bytes stage
