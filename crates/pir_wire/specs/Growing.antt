-- A message in the making: what has come of the body of a frame.
use Rattle.std.specs.Prelude.{ℕ, List, ◌++◌, ◌≡◌, ◌≤◌, length, take, Result, Ok, Err}
use Rattle.spiral_sets.specs.declared.param_set.ParamSet.{ParamSet}
use Rattle.spiral_sets.specs.Sets.{IsSet}
use Rattle.frame_headers.specs.declared.kind.FrameKind.{FrameKind}
use Rattle.frame_headers.specs.Kinds.{body_len_of}
use Rattle.frame_headers.specs.Checks.{refuses}
use Rattle.frame_streams.specs.Heads.{found, NotRefused}
use Rattle.pir_wire.specs.declared.decoder.body.GrowError.{GrowError}
use Rattle.pir_wire.specs.declared.decoder.body.GrowError.TheVariants.{Refused, NoMemory}

-- the kind and the set of its frame, and the bytes of the body that have come
pub record BodySeen : Type 0 where
  pub kind : FrameKind
  pub set : ParamSet
  pub bytes : List ℕ

-- What every body in the making keeps: no check has failed, and no byte is too many.
pub record IsGrowing (b : BodySeen) : Type 0 where
  pub known : IsSet b.set
  pub clean : NotRefused b.kind b.set b.bytes
  pub within : length b.bytes ≤ body_len_of b.kind b.set

-- Bytes were taken from the front of a piece, at least one; or the body is refused by one of the piece; or memory was wanting.
abbrev pub Grows : BodySeen → BodySeen → List ℕ → Result ℕ GrowError → Type 0
Grows old new piece (Ok n) = (1 ≤ n) × (n ≤ length piece) × (new ≡ record old { bytes = old.bytes ++ take n piece }) × IsGrowing new
Grows old new piece (Err (Refused error)) = (n : ℕ) × (n ≤ length piece) × (found old.kind old.set (old.bytes ++ take n piece) ≡ refuses error)
Grows old new piece (Err NoMemory) = Unit {0}
