-- The messages that were read: they stay in front of what comes, and those already taken don't matter to it.
use Rattle.std.proofs.Common.{◌≡◌, ℕ, ◌+◌, List, [], ◌∷◌, ◌++◌, Option, Some, None, refl, ap, sym, ◌∙◌, append_assoc}
use Rattle.std.proofs.lemmas.List.{append-nil}
use Rattle.spiral_frames.specs.Frames.{Message}
use Rattle.spiral_frames.specs.FrameChecks.{Front, more, wrong, whole, front}
use Rattle.frame_streams.specs.Parsing.{message_in}
use Rattle.frame_streams.specs.Decoding.{Placed, Condition, refused, wanting, reading, Decoding, with_message, by_front, after, step_by, step, decoded}
use Rattle.frame_streams.proofs.Pieces.{decoded-nil, decoded-cons}

-- ---- messages already taken

-- with these messages in front of those that are ready, and another place of the last one
abbrev pub behind_taken : List Placed → ℕ → Decoding → Decoding
behind_taken taken last d = record d { ready = taken ++ d.ready; last = last }

module _ (taken : List Placed) (last : ℕ) where
  taken_message : (ready : List Placed) (place : ℕ) (read : Option Message) → with_message (taken ++ ready) place read ≡ taken ++ with_message ready place read
  taken_message ready place (Some message) = append_assoc taken ready (record { place = place; message = message } ∷ [])
  taken_message ready place None = refl

  taken_front : (d : Decoding) (y : List ℕ) (found : Front) → by_front (behind_taken taken last d) y found ≡ behind_taken taken last (by_front d y found)
  taken_front d y more = refl
  taken_front d y (wrong error) = refl
  taken_front d y (whole len) =
      ap (λ (ready : List Placed). record d { ready = ready; last = last; at = d.at + len; condition = reading [] }) (taken_message d.ready d.at (message_in y))

  taken_after : (d : Decoding) (y : List ℕ) → after (behind_taken taken last d) y ≡ behind_taken taken last (after d y)
  unfolding after
  taken_after d y = taken_front d y (front d.kinds y)

  taken_by : (c : Condition) (d : Decoding) (byte : ℕ) → step_by c (behind_taken taken last d) byte ≡ behind_taken taken last (step_by c d byte)
  taken_by (reading y) d byte = taken_after d (y ++ byte ∷ [])
  taken_by (refused error) d byte = refl
  taken_by wanting d byte = refl

  taken_step : (d : Decoding) (byte : ℕ) → step (behind_taken taken last d) byte ≡ behind_taken taken last (step d byte)
  unfolding step
  taken_step d byte = taken_by d.condition d byte

  -- Messages already taken don't matter to what comes.
  pub apart : (d : Decoding) (x : List ℕ)
      → decoded (record d { ready = taken ++ d.ready; last = last }) x ≡ record (decoded d x) { ready = taken ++ (decoded d x).ready; last = last }
  apart d [] = decoded-nil (behind_taken taken last d) ∙ ap (behind_taken taken last) (sym (decoded-nil d))
  apart d (byte ∷ x) =
      decoded-cons (behind_taken taken last d) byte x
      ∙ ap (λ (t : Decoding). decoded t x) (taken_step d byte)
      ∙ apart (step d byte) x
      ∙ ap (behind_taken taken last) (sym (decoded-cons d byte x))

-- ---- messages that are ready

prefix_message : (ready : List Placed) (place : ℕ) (read : Option Message) → (later : List Placed) × (with_message ready place read ≡ ready ++ later)
prefix_message ready place (Some message) = (record { place = place; message = message } ∷ [], refl)
prefix_message ready place None = ([], sym (append-nil ready))

prefix_front : (d : Decoding) (y : List ℕ) (found : Front) → (later : List Placed) × ((by_front d y found).ready ≡ d.ready ++ later)
prefix_front d y more = ([], sym (append-nil d.ready))
prefix_front d y (wrong error) = ([], sym (append-nil d.ready))
prefix_front d y (whole len) = prefix_message d.ready d.at (message_in y)

prefix_after : (d : Decoding) (y : List ℕ) → (later : List Placed) × ((after d y).ready ≡ d.ready ++ later)
unfolding after
prefix_after d y = prefix_front d y (front d.kinds y)

prefix_by : (c : Condition) (d : Decoding) (byte : ℕ) → (later : List Placed) × ((step_by c d byte).ready ≡ d.ready ++ later)
prefix_by (reading y) d byte = prefix_after d (y ++ byte ∷ [])
prefix_by (refused error) d byte = ([], sym (append-nil d.ready))
prefix_by wanting d byte = ([], sym (append-nil d.ready))

prefix_step : (d : Decoding) (byte : ℕ) → (later : List Placed) × ((step d byte).ready ≡ d.ready ++ later)
unfolding step
prefix_step d byte = prefix_by d.condition d byte

-- What is ready stays in front of what becomes ready.
pub ready_prefix : (d : Decoding) (x : List ℕ) → (later : List Placed) × ((decoded d x).ready ≡ d.ready ++ later)
ready_prefix d [] = ([], ap (λ (t : Decoding). t.ready) (decoded-nil d) ∙ sym (append-nil d.ready))
ready_prefix d (byte ∷ x) =
    let one = prefix_step d byte in
    let rest = ready_prefix (step d byte) x in (
      one.0 ++ rest.0,
      ap (λ (t : Decoding). t.ready) (decoded-cons d byte x) ∙ rest.1 ∙ ap (λ (ready : List Placed). ready ++ rest.0) one.1
          ∙ append_assoc d.ready one.0 rest.0,
    )
