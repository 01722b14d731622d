-- What is kept of the bodies of Refuse, State and Reply frames in the making.
use Rattle.std.specs.Prelude.{ℕ, List, [], ◌∷◌, ◌++◌, ◌*◌, ◌/◌, ◌^◌, ◌≡◌, ◌<◌, ◌≤◌, ◌⊎◌, length, take, drop, All, Result, Ok, Err}
use Rattle.std.specs.List.{flat_map}
use Rattle.negacyclic.specs.Digits.{number_of, repacked}
use Rattle.spiral_sets.specs.declared.param_set.ParamSet.{ParamSet}
use Rattle.spiral_sets.specs.Sets.{IsSet, entries, q1_bits, q1, q2, max_records, capacity}
use Rattle.spiral_sets.specs.Counts.{packed_len, state_len}
use Rattle.frame_headers.specs.declared.kind.FrameKind.{FrameKind}
use Rattle.frame_headers.specs.Checks.{refuses}
use Rattle.spiral_model.specs.Words.{Poly}
use Rattle.spiral_model.specs.Replies.{IsSwitched}
use Rattle.spiral_frames.specs.Frames.{packed}
use Rattle.frame_streams.specs.Heads.{found}
use Rattle.pir_wire.specs.declared.decoder.body.GrowError.{GrowError}
use Rattle.pir_wire.specs.declared.decoder.body.GrowError.TheVariants.{Refused, NoMemory}

-- ---- bytes that are kept as they come

-- Bytes from the front of a piece were put behind those that are kept, at least one, and the result is as it has to be; or one of them
-- refuses the body; or memory was wanting. In both cases nothing was taken.
abbrev pub Takes : FrameKind → (List ℕ → Type 0) → ParamSet → List ℕ → List ℕ → List ℕ → Result ℕ GrowError → Type 0
Takes kind Fits set old new piece (Ok n) = (1 ≤ n) × (n ≤ length piece) × (new ≡ old ++ take n piece) × Fits new
Takes kind Fits set old new piece (Err (Refused error)) = (new ≡ old) × (n : ℕ) × (n ≤ length piece) × (found kind set (old ++ take n piece) ≡ refuses error)
Takes kind Fits set old new piece (Err NoMemory) = new ≡ old

-- ---- a Refuse

-- no byte is too many
pub record IsRefusePart (set : ParamSet) (bytes : List ℕ) : Type 0 where
  pub known : IsSet set
  pub within : length bytes ≤ 9

-- ---- a State

-- As far as they have come, the index is that of a record and the bytes of the secret are 0, 1 or 2.
pub record IsStatePart (set : ParamSet) (bytes : List ℕ) : Type 0 where
  pub known : IsSet set
  pub within : length bytes ≤ state_len set
  pub low : 8 ≤ length bytes → number_of 256 (take 8 bytes) < max_records set
  pub small : All (λ b. b ≤ 2) (drop 8 bytes)

-- ---- a Reply

-- As far as they have come, the count and the record length are within their bounds.
pub record IsReplyFront (set : ParamSet) (front : List ℕ) : Type 0 where
  pub most : length front ≤ 16
  pub few : 8 ≤ length front → number_of 256 (take 8 front) ≤ max_records set
  pub some_length : 16 ≤ length front → 0 < number_of 256 (take 8 (drop 8 front))
  pub right_length : 16 ≤ length front → number_of 256 (take 8 (drop 8 front)) ≤ capacity set

-- The bytes of what has come: the numbers in front, whole polynomials of rows 1 to n and of row 0, and bytes of the next one.
abbrev pub reply_bytes : ParamSet → List ℕ → List Poly → List Poly → List ℕ → List ℕ
reply_bytes set front body mask part = front ++ (flat_map (packed set (q1_bits set)) body ++ (flat_map (packed set set.q2_bits) mask ++ part))

-- Each of these begins where the one before is whole.
pub record IsReplyPart (set : ParamSet) (front : List ℕ) (body mask : List Poly) (part : List ℕ) : Type 0 where
  pub known : IsSet set
  pub numbers : IsReplyFront set front
  pub body_polys : All (IsSwitched set.degree (q1 set)) body
  pub mask_polys : All (IsSwitched set.degree (q2 set)) mask
  pub body_most : length body ≤ entries set
  pub mask_most : length mask ≤ set.n
  pub body_begins : length front < 16 → (body ≡ []) × (mask ≡ []) × (part ≡ [])
  pub mask_begins : length body < entries set → mask ≡ []
  pub body_part : length body < entries set → length part < packed_len set (q1_bits set)
  pub mask_part : entries set ≤ length body → length part < packed_len set set.q2_bits
  pub all : set.n ≤ length mask → part ≡ []

-- Bytes of a polynomial whose N numbers are packed at a width were taken: it is still wanting some; or it is whole and joined the others.
abbrev pub PartTaken : ℕ → ℕ → List Poly → List ℕ → List Poly → List ℕ → List ℕ → Type 0
PartTaken N width polys part polys_now part_now taken =
    ((polys_now ≡ polys) × (part_now ≡ part ++ taken) × (length part_now < N * width / 8))
    ⊎ ((poly : Poly) × IsSwitched N (2 ^ width) poly × (repacked width 8 (N * width / 8) poly ≡ part ++ taken) × (polys_now ≡ polys ++ poly ∷ []) × (part_now ≡ []))
