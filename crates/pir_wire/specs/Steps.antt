-- What one step of a decoder answers, and what becomes of it.
use Rattle.std.specs.Prelude.{ℕ, List, ◌+◌, ◌≡◌, ◌≤◌, length, take, Result, Ok, Err}
use Rattle.spiral_frames.specs.FrameChecks.{whole, front}
use Rattle.frame_streams.specs.Decoding.{Condition, refused, wanting, reading, Decoding, after, decoded}
use Rattle.no_memory.specs.declared.NoMemory.{NoMemory as Wanting}
use Rattle.pir_wire.specs.declared.decoder.FeedError.{FeedError}
use Rattle.pir_wire.specs.declared.decoder.FeedError.TheVariants.{Frame, NoMemory}

-- the same decoding, with these bytes of the frame at hand
abbrev pub with_bytes : Decoding → List ℕ → Decoding
with_bytes d bytes = record d { condition = reading bytes }

-- the place behind the bytes that have come
abbrev pub reach_by : Condition → ℕ → ℕ
reach_by (reading bytes) at = at + length bytes
reach_by (refused error) at = at
reach_by wanting at = at

abbrev pub reach : Decoding → ℕ
reach d = reach_by d.condition d.at

-- memory was wanting; nothing else has changed
abbrev pub IsStuck : Decoding → Decoding → Type 0
IsStuck old new = (new.condition ≡ wanting) × (new.kinds ≡ old.kinds) × (new.last ≡ old.last) × (new.ready ≡ old.ready)

-- reading goes on
abbrev pub GoesOn : Decoding → Type 0
GoesOn d = (bytes : List ℕ) × (d.condition ≡ reading bytes)

-- Whether more can be fed.
abbrev pub MayGoOn : Decoding → Result (Unit {0}) FeedError → Type 0
MayGoOn d (Ok _) = GoesOn d
MayGoOn d (Err (Frame error)) = d.condition ≡ refused error
MayGoOn d (Err NoMemory) = d.condition ≡ wanting

-- Bytes were taken from the front of a piece, at least one; or the piece is refused; or memory was wanting.
abbrev pub TakesSome : Decoding → Decoding → List ℕ → Result ℕ FeedError → Type 0
TakesSome old new piece (Ok n) = (1 ≤ n) × (n ≤ length piece) × (new ≡ decoded old (take n piece)) × GoesOn new × (reach new ≡ reach old + n)
TakesSome old new piece (Err (Frame error)) = (new ≡ decoded old piece) × (new.condition ≡ refused error)
TakesSome old new piece (Err NoMemory) = IsStuck old new

-- These bytes of a frame have come, and the decoder is what becomes of it by them; a whole frame ends with them. Or memory was wanting.
abbrev pub ComesTo : Decoding → List ℕ → Decoding → Result (Unit {0}) Wanting → Type 0
ComesTo old bytes new (Ok _) =
    (new ≡ after old bytes) × ((len : ℕ) → front old.kinds bytes ≡ whole len → len ≡ length bytes) × GoesOn new × (reach new ≡ old.at + length bytes)
ComesTo old bytes new (Err _) = new ≡ old
