-- A frame by its header and its body.
use Rattle.std.specs.Prelude.{ℕ, List, ◌++◌, ◌≡◌, length}
use Rattle.spiral_sets.specs.declared.param_set.ParamSet.{ParamSet}
use Rattle.frame_headers.specs.declared.frame_error.FrameError.{FrameError}
use Rattle.frame_headers.specs.declared.kind.FrameKind.{FrameKind}
use Rattle.frame_headers.specs.Kinds.{code_of_kind, body_len_of}
use Rattle.frame_headers.specs.Headers.{header}
use Rattle.frame_headers.specs.Checks.{Outcome, refuses, checked}
use Rattle.spiral_frames.specs.FrameChecks.{body_checks}

-- the header of a frame of that kind and set
abbrev pub header_of : FrameKind → ParamSet → List ℕ
header_of kind set = header (code_of_kind kind) set (body_len_of kind set)

-- What the checks of a body find, when these of its bytes have come.
abbrev pub found : FrameKind → ParamSet → List ℕ → Outcome
found kind set body = checked (body_checks kind set (header_of kind set ++ body)) (length (header_of kind set ++ body))

-- none of them has failed
abbrev pub NotRefused : FrameKind → ParamSet → List ℕ → Type 0
NotRefused kind set body = (error : FrameError) → found kind set body ≡ refuses error → ⊥
