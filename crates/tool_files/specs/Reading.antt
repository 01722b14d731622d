-- How an input is read as one frame.
use Rattle.std.specs.Prelude.{ℕ, List, IsTrue, ◌≡◌, Result, Err, IfOk}
use Rattle.frame_headers.specs.declared.frame_error.FrameError.{FrameError}
use Rattle.pir_io.specs.Files.{FilesSeen, content_of}
use Rattle.pir_io.specs.Reading.{OnlyRead, FailedReading}
use Rattle.frame_streams.specs.OneFrames.{IsOneOf}
use Rattle.pir_wire.specs.declared.message.Message.{Message}
use Rattle.pir_wire.specs.Messages.{message_seen}
use Rattle.tool_base.specs.Steps.{IsRefusedAs}
use Rattle.tool_files.specs.declared.input.InputError.{InputError}
use Rattle.tool_files.specs.declared.input.InputError.TheVariants.{File, Frame}

-- A file was read as one frame of these kinds. Is says what its bytes are; where they are nothing of the sort, why they are refused.
pub record ReadsMessage {T : Type 0} (kinds : ℕ) (Is : List ℕ → T → Type 0) (old new : FilesSeen) (name : List ℕ) (result : Result T InputError) : Type 0 where
  pub only : OnlyRead old new
  pub file : result ≡ Err File → FailedReading old new name
  pub found : IsTrue old.tells → IfOk result (λ message. Is (content_of old name) message)
  pub cause : (error : FrameError) → result ≡ Err (Frame error) → IsTrue old.tells → IsRefusedAs kinds (content_of old name) error
  pub none : (error : FrameError) → result ≡ Err (Frame error) → IsTrue old.tells → (message : T) → Is (content_of old name) message → ⊥

-- bytes are one whole frame of these kinds, of this message
abbrev pub SpellsOneOf : ℕ → List ℕ → Message → Type 0
SpellsOneOf kinds bytes message = IsOneOf kinds bytes (message_seen message)
