-- The codes and places of the refusals of a frame.
use Rattle.std.specs.Prelude.{ℕ}
use Rattle.frame_headers.specs.declared.frame_error.FrameError.{FrameError}
use Rattle.frame_headers.specs.declared.frame_error.FrameError.TheVariants.{Short, Magic, Version, Kind, UnknownSet, Length, Residue, RecordLength, TooMany, Ragged, Extra}

abbrev pub code_of : FrameError → ℕ
code_of (Short _) = 1
code_of (Magic _) = 2
code_of (Version _ _) = 3
code_of (Kind _ _) = 4
code_of (UnknownSet _) = 5
code_of (Length _ _ _) = 6
code_of (Residue _ _ _) = 7
code_of (RecordLength _ _) = 8
code_of (TooMany _ _) = 9
code_of (Ragged _ _) = 10
code_of (Extra _) = 14

abbrev pub place_of : FrameError → ℕ
place_of (Short place) = place
place_of (Magic place) = place
place_of (Version place _) = place
place_of (Kind place _) = place
place_of (UnknownSet place) = place
place_of (Length place _ _) = place
place_of (Residue place _ _) = place
place_of (RecordLength place _) = place
place_of (TooMany place _) = place
place_of (Ragged place _) = place
place_of (Extra place) = place
