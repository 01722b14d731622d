-- Laws of reading, each the contract of a public function: what the messages and the refusal of an input are, said of the whole input.
use Rattle.std.specs.Prelude.{ℕ, true, List, [], ◌∷◌, ◌++◌, ◌+◌, ◌^◌, ◌<◌, ◌≡◌, length, All, Some}
use Rattle.frame_headers.specs.Kinds.{code_of_kind}
use Rattle.frame_headers.specs.Checks.{accepts}
use Rattle.spiral_frames.specs.Frames.{Message, IsMessage, kind_of, frame_of, Spell}
use Rattle.spiral_frames.specs.FrameChecks.{Front, more, wrong, whole, front}
use Rattle.frame_streams.specs.Decoding.{Placed, Condition, refused, reading, Decoding, begun, moved, decoded, AreKinds}
use Rattle.frame_streams.specs.Parsing.{message_in}

-- Bytes are below 256.
abbrev pub AreBytes : List ℕ → Type 0
AreBytes x = All (λ b. b < 256) x

-- ---- spellings

-- Bytes spell at most one message.
abbrev pub SpelledOnce : Type 0
SpelledOnce = (x : List ℕ) (m n : Message) → Spell m x → Spell n x → m ≡ n

-- No spelling is a proper prefix of another.
abbrev pub NoProperPrefix : Type 0
NoProperPrefix = (m n : Message) (x rest : List ℕ) → Spell m x → Spell n (x ++ rest) → rest ≡ []

-- The frame of a message of an accepted kind stands at the front of whatever begins with it, and is read as that message.
abbrev pub FrameIsFirst : Type 0
FrameIsFirst =
    (kinds : ℕ) (m : Message) (rest : List ℕ) → IsMessage m → accepts kinds (code_of_kind (kind_of m)) ≡ true
    → (front kinds (frame_of m ++ rest) ≡ whole (length (frame_of m))) × (message_in (frame_of m) ≡ Some m)

-- What is read as a whole frame is spelled by its message, of an accepted kind.
abbrev pub WholeIsSpelled : Type 0
WholeIsSpelled =
    (kinds : ℕ) (x : List ℕ) → AreBytes x → AreKinds kinds → front kinds x ≡ whole (length x)
    → (m : Message) × (message_in x ≡ Some m) × Spell m x × (accepts kinds (code_of_kind (kind_of m)) ≡ true)

-- ---- splitting an input

-- The bytes are the frames of these messages, one behind the other, the first of them at a place.
abbrev pub StandAt : ℕ → List Placed → List ℕ → Type 0
StandAt place [] x = x ≡ []
StandAt place (placed ∷ rest) x =
    (placed.place ≡ place) × IsMessage placed.message × (tail : List ℕ) × (x ≡ frame_of placed.message ++ tail)
    × StandAt (place + length (frame_of placed.message)) rest tail

-- How reading stands at the rest of an input behind its frames.
abbrev pub StandsBy : Front → ℕ → List ℕ → Condition → Type 0
StandsBy more at rest condition = condition ≡ reading rest
StandsBy (wrong error) at rest condition = condition ≡ refused (moved at error)
StandsBy (whole len) at rest condition = ⊥

-- An input was read: it is the frames of the messages and a rest that begins with no whole frame; the refusal is that of the rest.
pub record Reads (kinds : ℕ) (x : List ℕ) (d : Decoding) : Type 0 where
  pub frames : List ℕ
  pub rest : List ℕ
  pub split : x ≡ frames ++ rest
  pub stand : StandAt 0 d.ready frames
  pub at : d.at ≡ length frames
  pub stands : StandsBy (front kinds rest) d.at rest d.condition

-- Whatever was read is read so.
abbrev pub InputIsRead : Type 0
InputIsRead = (kinds : ℕ) (x : List ℕ) → AreBytes x → AreKinds kinds → Reads kinds x (decoded (begun kinds) x)

-- The pieces don't matter: reading one piece after another is reading them as one.
abbrev pub PiecesDontMatter : Type 0
PiecesDontMatter = (d : Decoding) (x y : List ℕ) → decoded d (x ++ y) ≡ decoded (decoded d x) y

-- A frame at hand has fewer than 2^24 bytes: it is refused or whole before it has more.
abbrev pub FramesAreShort : Type 0
FramesAreShort = (kinds : ℕ) (x : List ℕ) → AreBytes x → AreKinds kinds → front kinds x ≡ more → length x < 2 ^ 24
