-- Headers of frames, by the kind and the set.
use Rattle.std.specs.Prelude.{ℕ, List, ◌+◌, ◌++◌, ◌≡◌, ◌≤◌, length, drop}
use Rattle.spiral_sets.specs.declared.param_set.ParamSet.{ParamSet}
use Rattle.spiral_sets.specs.Sets.{IsSet}
use Rattle.frame_headers.specs.declared.kind.FrameKind.{FrameKind}
use Rattle.frame_headers.specs.Kinds.{body_len_of}
use Rattle.frame_streams.specs.Heads.{header_of}

-- how many bytes such a frame has
abbrev pub frame_len_of : FrameKind → ParamSet → ℕ
frame_len_of kind set = length (header_of kind set) + body_len_of kind set

-- The bytes begin with the header of that kind and set, and the body starts behind it.
pub record BeginsWith (kind : FrameKind) (bytes : List ℕ) (set : ParamSet) (start : ℕ) : Type 0 where
  pub known : IsSet set
  pub within : start ≤ length bytes
  pub front : bytes ≡ header_of kind set ++ drop start bytes

-- the bytes don't begin with that of this set
abbrev pub HasOtherFront : FrameKind → List ℕ → ParamSet → Type 0
HasOtherFront kind bytes set = (body : List ℕ) → bytes ≡ header_of kind set ++ body → ⊥
