-- Laws of reading an input: it is split into frames and a rest, a frame at hand is short, and a first frame is read first.
use Rattle.std.proofs.Common.{◌≡◌, ℕ, ◌+◌, ◌<◌, ◌≤◌, List, [], length, take, drop, refl, ap, sym, ◌∙◌, arith, length-take}
use Rattle.std.proofs.lemmas.List.{take-append-drop}
use Rattle.std.specs.Prelude.{◌^◌}
use Rattle.frame_headers.specs.declared.frame_error.FrameError.{FrameError}
use Rattle.frame_headers.specs.declared.frame_error.FrameError.TheVariants.{Short, Magic, Version, Kind, UnknownSet, Length, Residue, RecordLength, TooMany, Ragged, Extra}
use Rattle.spiral_frames.specs.FrameChecks.{more, wrong, whole, front}
use Rattle.frame_streams.specs.Parsing.{message_in}
use Rattle.frame_streams.specs.Decoding.{refused, reading, Decoding, begun, moved, with_message, decoded, AreKinds}
use Rattle.frame_streams.specs.StreamLaws.{AreBytes, Reads}
use Rattle.frame_streams.proofs.Agreeing.{whole_within}
use Rattle.frame_streams.proofs.LastBytes.{front_at}
use Rattle.frame_streams.proofs.ShortFrames.{short_frames}
use Rattle.frame_streams.proofs.Pieces.{decoded-append, piece_more, piece_wrong, piece_whole}
use Rattle.frame_streams.proofs.Splitting.{front-nil, read_as_frames}
use Rattle.frame_streams.proofs.Spelled.{whole_is_spelled}

-- Whatever was read is frames of messages and a rest that begins with none.
pub input_is_read : (kinds : ℕ) (x : List ℕ) → AreBytes x → AreKinds kinds → Reads kinds x (decoded (begun kinds) x)
input_is_read = read_as_frames whole_is_spelled

-- A frame at hand has fewer than 2^24 bytes.
pub frames_are_short : (kinds : ℕ) (x : List ℕ) → AreBytes x → AreKinds kinds → front kinds x ≡ more → length x < 2 ^ 24
frames_are_short = short_frames

-- ---- the first frame

-- what reading has come to when the first frame, of n bytes, was read
abbrev pub first_taken : ℕ → List ℕ → ℕ → Decoding
first_taken kinds x n = record { kinds = kinds; ready = with_message [] 0 (message_in (take n x)); last = 0; at = n; condition = reading [] }

-- A whole frame at the front is read first.
pub first_whole : (kinds : ℕ) (x : List ℕ) (n : ℕ) → front kinds x ≡ whole n → decoded (begun kinds) x ≡ decoded (first_taken kinds x n) (drop n x)
first_whole kinds x n found =
    let size : n ≤ length x = whole_within kinds x n found in
    let few : length (take n x) ≡ n = length-take n x ∙ omega arith in
    let here : front kinds (take n x) ≡ whole n =
    front_at kinds (take n x) (drop n x) n (ap (front kinds) (take-append-drop n x) ∙ found) (omega (arith, few)) in
    let start : 0 + n ≡ n = omega arith in
    let first : decoded (begun kinds) (take n x) ≡ first_taken kinds x n =
    piece_whole (begun kinds) [] (take n x) refl (front-nil kinds) n here (sym few)
    ∙ ap (λ (at : ℕ). record (first_taken kinds x n) { at = at }) start in
    ap (decoded (begun kinds)) (sym (take-append-drop n x))
    ∙ decoded-append (begun kinds) (take n x) (drop n x)
    ∙ ap (λ (d : Decoding). decoded d (drop n x)) first

-- Where more bytes are wanted, all are at hand.
pub first_more : (kinds : ℕ) (x : List ℕ) → front kinds x ≡ more → decoded (begun kinds) x ≡ record (begun kinds) { condition = reading x }
first_more kinds x wants = piece_more (begun kinds) [] x refl (front-nil kinds) wants

pub moved_none : (error : FrameError) → moved 0 error ≡ error
moved_none (Short place) = ap (λ (p : ℕ). Short p) (omega arith)
moved_none (Magic place) = ap (λ (p : ℕ). Magic p) (omega arith)
moved_none (Version place value) = ap (λ (p : ℕ). Version p value) (omega arith)
moved_none (Kind place value) = ap (λ (p : ℕ). Kind p value) (omega arith)
moved_none (UnknownSet place) = ap (λ (p : ℕ). UnknownSet p) (omega arith)
moved_none (Length place value needed) = ap (λ (p : ℕ). Length p value needed) (omega arith)
moved_none (Residue place value bound) = ap (λ (p : ℕ). Residue p value bound) (omega arith)
moved_none (RecordLength place value) = ap (λ (p : ℕ). RecordLength p value) (omega arith)
moved_none (TooMany place value) = ap (λ (p : ℕ). TooMany p value) (omega arith)
moved_none (Ragged place value) = ap (λ (p : ℕ). Ragged p value) (omega arith)
moved_none (Extra place) = ap (λ (p : ℕ). Extra p) (omega arith)

-- What is refused at the front is refused so.
pub first_wrong : (kinds : ℕ) (x : List ℕ) (error : FrameError) → front kinds x ≡ wrong error
    → decoded (begun kinds) x ≡ record (begun kinds) { condition = refused error }
first_wrong kinds x error fails =
    piece_wrong (begun kinds) [] x refl (front-nil kinds) error fails
    ∙ ap (λ (e : FrameError). record (begun kinds) { condition = refused e }) (moved_none error)
