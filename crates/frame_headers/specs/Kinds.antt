-- The kinds of frames: their codes, and how many bytes their bodies have.
use Rattle.std.specs.Prelude.{ℕ, nat_eq, if◌then◌else◌, Option, Some, None}
use Rattle.spiral_sets.specs.declared.param_set.ParamSet.{ParamSet}
use Rattle.spiral_sets.specs.Counts.{setup_len, query_len, reply_len, state_len}
use Rattle.frame_headers.specs.declared.kind.FrameKind.{FrameKind}
use Rattle.frame_headers.specs.declared.kind.FrameKind.TheVariants.{Setup, Query, Reply, Refuse, State, Database}

abbrev pub code_of_kind : FrameKind → ℕ
code_of_kind Setup = 1
code_of_kind Query = 2
code_of_kind Reply = 3
code_of_kind Refuse = 4
code_of_kind State = 5
code_of_kind Database = 6

abbrev pub kind_of_code : ℕ → Option FrameKind
kind_of_code code =
    if nat_eq code 1 then Some Setup else (if nat_eq code 2 then Some Query else (if nat_eq code 3 then Some Reply else
    (if nat_eq code 4 then Some Refuse else (if nat_eq code 5 then Some State else (if nat_eq code 6 then Some Database else None)))))

-- How many bytes the body of a kind has; a Database's has at least 16.
abbrev pub body_len_of : FrameKind → ParamSet → ℕ
body_len_of Setup set = setup_len set
body_len_of Query set = query_len set
body_len_of Reply set = reply_len set
body_len_of Refuse set = 9
body_len_of State set = state_len set
body_len_of Database set = 16
