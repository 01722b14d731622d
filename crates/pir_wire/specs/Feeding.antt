-- What a decoder answers, and what becomes of it.
use Rattle.std.specs.Prelude.{ℕ, List, [], ◌∷◌, ◌++◌, ◌+◌, ◌≡◌, length, Option, Some, None, Result, Ok, Err}
use Rattle.frame_headers.specs.declared.frame_error.FrameError.{FrameError}
use Rattle.frame_headers.specs.declared.frame_error.FrameError.TheVariants.{Short}
use Rattle.spiral_frames.specs.Frames.{Message}
use Rattle.frame_streams.specs.Decoding.{Placed, Condition, refused, wanting, reading, Decoding}
use Rattle.pir_wire.specs.declared.decoder.FeedError.{FeedError}
use Rattle.pir_wire.specs.declared.decoder.FeedError.TheVariants.{Frame, NoMemory}

-- a list that begins with the first one and with which the last one begins
abbrev pub IsBetween : {A : Type 0} → List A → List A → List A → Type 0
IsBetween {A = A} first xs last = (more : List A) × (rest : List A) × (xs ≡ first ++ more) × (last ≡ xs ++ rest)

-- A piece was fed: `now` is what reading it comes to. Where memory was wanting, at least the messages that were whole before are there.
abbrev pub FeedGives : Decoding → Decoding → Decoding → Result (Unit {0}) FeedError → Type 0
FeedGives old now new (Ok _) = (new ≡ now) × (bytes : List ℕ) × (now.condition ≡ reading bytes)
FeedGives old now new (Err (Frame error)) = (new ≡ now) × (now.condition ≡ refused error)
FeedGives old now new (Err NoMemory) =
    (new.condition ≡ wanting) × (new.kinds ≡ old.kinds) × (new.last ≡ old.last) × IsBetween old.ready new.ready now.ready

-- The next message was taken; or there was none.
abbrev pub Takes : Decoding → Decoding → Option Message → Type 0
Takes old new None = (old.ready ≡ []) × (new ≡ old)
Takes old new (Some message) =
    (rest : List Placed) × (place : ℕ) × (old.ready ≡ record { place = place; message = message } ∷ rest)
    × (new ≡ record old { ready = rest; last = place })

-- The refusal of an input that ends here: its own, or Short inside a frame.
abbrev pub ends_by : Condition → ℕ → Option FrameError
ends_by (refused error) at = Some error
ends_by wanting at = None
ends_by (reading []) at = None
ends_by (reading (byte ∷ bytes)) at = Some (Short (at + length (byte ∷ bytes)))
