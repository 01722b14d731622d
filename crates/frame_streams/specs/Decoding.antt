-- How bytes are read as frames, one after the other, byte by byte: what any cutting of them into pieces comes to.
use Rattle.std.specs.Prelude.{ℕ, List, [], ◌∷◌, ◌++◌, ◌+◌, ◌<◌, ◌≡◌, ◌^◌, ◌%◌, length, Option, Some, None}
use Rattle.frame_headers.specs.declared.frame_error.FrameError.{FrameError}
use Rattle.frame_headers.specs.declared.frame_error.FrameError.TheVariants.{Short, Magic, Version, Kind, UnknownSet, Length, Residue, RecordLength, TooMany, Ragged, Extra}
use Rattle.spiral_frames.specs.Frames.{Message}
use Rattle.spiral_frames.specs.FrameChecks.{Front, more, wrong, whole, front}
use Rattle.frame_streams.specs.Parsing.{message_in}

-- a message, and the place of its frame's first byte in the input
pub record Placed : Type 0 where
  pub place : ℕ
  pub message : Message

-- How reading stands: the input is refused; memory was wanting; or it goes on, and these bytes of the frame at hand have come.
pub data Condition : Type 0 where
  refused : FrameError → Condition
  wanting : Condition
  reading : List ℕ → Condition

-- An input being read: the kinds that are accepted, as bits; the messages not taken yet; the place of the message taken last; that of the
-- frame at hand; and how reading stands.
pub record Decoding : Type 0 where
  pub kinds : ℕ
  pub ready : List Placed
  pub last : ℕ
  pub at : ℕ
  pub condition : Condition

-- nothing was read yet
abbrev pub begun : ℕ → Decoding
begun kinds = record { kinds = kinds; ready = []; last = 0; at = 0; condition = reading [] }

-- a refusal whose place is counted from further on in the input
abbrev pub moved : ℕ → FrameError → FrameError
moved by (Short place) = Short (by + place)
moved by (Magic place) = Magic (by + place)
moved by (Version place value) = Version (by + place) value
moved by (Kind place value) = Kind (by + place) value
moved by (UnknownSet place) = UnknownSet (by + place)
moved by (Length place value needed) = Length (by + place) value needed
moved by (Residue place value bound) = Residue (by + place) value bound
moved by (RecordLength place value) = RecordLength (by + place) value
moved by (TooMany place value) = TooMany (by + place) value
moved by (Ragged place value) = Ragged (by + place) value
moved by (Extra place) = Extra (by + place)

-- the message of a frame at a place, behind those before it
abbrev pub with_message : List Placed → ℕ → Option Message → List Placed
with_message placed place (Some message) = placed ++ record { place = place; message = message } ∷ []
with_message placed place None = placed

-- What becomes of it when these are the bytes of the frame at hand, by what stands at their front.
abbrev pub by_front : Decoding → List ℕ → Front → Decoding
by_front d bytes more = record d { condition = reading bytes }
by_front d bytes (wrong error) = record d { condition = refused (moved d.at error) }
by_front d bytes (whole len) = record d { ready = with_message d.ready d.at (message_in bytes); at = d.at + len; condition = reading [] }

unfoldable pub after : Decoding → List ℕ → Decoding
after d bytes = by_front d bytes (front d.kinds bytes)

-- The next byte comes.
abbrev pub step_by : Condition → Decoding → ℕ → Decoding
step_by (reading bytes) d byte = after d (bytes ++ byte ∷ [])
step_by (refused error) d byte = d
step_by wanting d byte = d

unfoldable pub step : Decoding → ℕ → Decoding
step d byte = step_by d.condition d byte

-- A piece of the input comes.
unfoldable pub decoded : Decoding → List ℕ → Decoding
decoded d [] = d
decoded d (byte ∷ piece) = decoded (step d byte) piece

-- The messages of an input, each with its place.
unfoldable pub messages : ℕ → List ℕ → List Placed
messages kinds x = (decoded (begun kinds) x).ready

-- The refusal of an input: that of the frame behind the last message; Short at the input's end, where a frame is begun there.
abbrev pub first_by : Condition → ℕ → Option FrameError
first_by (refused error) size = Some error
first_by wanting size = None
first_by (reading []) size = None
first_by (reading (byte ∷ bytes)) size = Some (Short size)

unfoldable pub first_refusal : ℕ → List ℕ → Option FrameError
first_refusal kinds x = first_by (decoded (begun kinds) x).condition (length x)

-- the kinds, as bits, that a decoder takes: any of 1 to 5
abbrev pub AreKinds : ℕ → Type 0
AreKinds kinds = (kinds < 64) × (kinds % 2 ≡ 0)

-- the place behind the bytes read so far fits its number, with so many more
abbrev pub RoomIn : Condition → ℕ → ℕ → Type 0
RoomIn (reading bytes) at size = at + length bytes + size < 2 ^ 64
RoomIn (refused error) at size = Unit {0}
RoomIn wanting at size = Unit {0}

abbrev pub HasRoom : Decoding → ℕ → Type 0
HasRoom d size = RoomIn d.condition d.at size
