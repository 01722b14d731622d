-- How a decoder's stage is seen, and what a decoder keeps.
use Rattle.std.specs.Prelude.{ℕ, ◌≡◌}
use Rattle.frame_headers.specs.declared.header.HeaderRead.TheVariants.{More}
use Rattle.frame_headers.specs.Checks.{header_read}
use Rattle.frame_streams.specs.Decoding.{Condition, refused, wanting, reading, AreKinds, RoomIn}
use Rattle.pir_wire.specs.declared.decoder.Stage.{Stage}
use Rattle.pir_wire.specs.declared.decoder.Stage.TheVariants as stage
use Rattle.pir_wire.specs.Making.{body_seen, frame_bytes, IsAtHand}

abbrev pub condition_of : Stage → Condition
condition_of (stage.Header bytes) = reading bytes.items
condition_of (stage.Body body come) = reading (frame_bytes (body_seen body))
condition_of (stage.Failed error) = refused error
condition_of stage.Stuck = wanting

-- A header at hand is wanting more; so is a body.
abbrev pub StageIs : ℕ → Stage → Type 0
StageIs kinds (stage.Header bytes) = header_read bytes.items kinds ≡ More
StageIs kinds (stage.Body body come) = IsAtHand kinds come (body_seen body)
StageIs kinds (stage.Failed error) = Unit {0}
StageIs kinds stage.Stuck = Unit {0}

-- the kinds are those of a decoder; and the place behind the bytes that have come fits its number
pub record IsStanding (kinds at : ℕ) (s : Stage) : Type 0 where
  pub taken : AreKinds kinds
  pub stage : StageIs kinds s
  pub room : RoomIn (condition_of s) at 0
