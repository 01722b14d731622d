-- How much of an input was read: the bytes at hand end where the input does, and there are fewer messages than bytes.
use Rattle.std.proofs.Common.{◌≡◌, ℕ, ◌+◌, ◌*◌, ◌≤◌, List, [], ◌∷◌, length, refl, ap, sym, ◌∙◌, arith, length-append}
use Rattle.frame_headers.specs.declared.frame_error.FrameError.{FrameError}
use Rattle.spiral_frames.specs.Frames.{Message, body_of, frame_of}
use Rattle.spiral_frames.specs.FrameChecks.{Front, more, wrong, whole, front}
use Rattle.spiral_frames.proofs.FrameLaws.{length-frame}
use Rattle.frame_streams.specs.Decoding.{Placed, Condition, refused, reading, Decoding, moved}
use Rattle.frame_streams.specs.StreamLaws.{StandAt, StandsBy, Reads}

same_reading : (y rest : List ℕ) → reading y ≡ reading rest → y ≡ rest
same_reading y rest h = cc

refused_or_reading : (error : FrameError) (y : List ℕ) → refused error ≡ reading y → ⊥
refused_or_reading error y h = cc

-- the bytes at hand are the rest
at_hand_by : (found : Front) (at : ℕ) (rest y : List ℕ) (condition : Condition) → StandsBy found at rest condition → condition ≡ reading y → y ≡ rest
at_hand_by more at rest y condition stands is = same_reading y rest (sym is ∙ stands)
at_hand_by (wrong error) at rest y condition stands is = absurd (refused_or_reading (moved at error) y (sym stands ∙ is))
at_hand_by (whole len) at rest y condition stands is = absurd stands

some_bytes : (m : Message) → 15 ≤ length (frame_of m)
some_bytes m = omega (arith, length-frame m (length (body_of m)) refl)

-- fewer messages than bytes
standing_few : (ready : List Placed) (place : ℕ) (frames : List ℕ) → StandAt place ready frames → 15 * length ready ≤ length frames
standing_few [] place frames stand = omega (arith, ap length stand)
standing_few (first ∷ ready) place frames stand =
    let frame : List ℕ = frame_of first.message in
    let rest = standing_few ready (place + length frame) stand.2 stand.4 in
    omega (arith, ap length stand.3, length-append frame stand.2, some_bytes first.message, rest)

module _ (kinds : ℕ) (x : List ℕ) (d : Decoding) (r : Reads kinds x d) where
  -- The bytes at hand end where the input does.
  pub total_read : (y : List ℕ) → d.condition ≡ reading y → d.at + length y ≡ length x
  total_read y is =
      let rest : y ≡ r.rest = at_hand_by (front kinds r.rest) d.at r.rest y d.condition r.stands is in
      omega (arith, ap length rest, ap length r.split, length-append r.frames r.rest, r.at)

  -- The frame at hand begins within the input.
  pub at_within : d.at ≤ length x
  at_within = omega (arith, ap length r.split, length-append r.frames r.rest, r.at)

  -- A message has 15 bytes at least.
  pub ready_few : 15 * length d.ready ≤ length x
  ready_few = omega (arith, standing_few d.ready 0 r.frames r.stand, ap length r.split, length-append r.frames r.rest)
