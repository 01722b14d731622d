-- How bytes are read as the header of a frame, or refused. Checks stand in the order in which the bytes come that decide them,
-- and the first one that fails gives the refusal.
use Rattle.std.specs.Prelude.{ℕ, Bool, true, false, List, [], ◌∷◌, ◌+◌, ◌/◌, ◌%◌, ◌^◌, not, length, take, drop, slice_index, nat_lt, nat_eq, if◌then◌else◌, Option, Some, None}
use Rattle.negacyclic.specs.Digits.{number_of}
use Rattle.spiral_sets.specs.declared.param_set.ParamSet.{ParamSet}
use Rattle.frame_headers.specs.declared.frame_error.FrameError.{FrameError}
use Rattle.frame_headers.specs.declared.frame_error.FrameError.TheVariants.{Magic, Version, Kind, UnknownSet, Length}
use Rattle.frame_headers.specs.declared.header.HeaderRead.{HeaderRead}
use Rattle.frame_headers.specs.declared.header.HeaderRead.TheVariants.{More, Refused, Whole}
use Rattle.spiral_sets.specs.Sets.{set_of}
use Rattle.frame_headers.specs.declared.kind.FrameKind.{FrameKind}
use Rattle.frame_headers.specs.Kinds.{kind_of_code, body_len_of}

-- Whether an input is refused, and how: decided by the byte at a place.
pub record Check : Type 0 where
  pub decided_at : ℕ
  pub fails : Bool
  pub refusal : FrameError

-- What checks find of an input: all pass; the first that fails; or the input ends before all are decided.
pub data Outcome : Type 0 where
  passes : Outcome
  refuses : FrameError → Outcome
  ends_before : Outcome

unfoldable pub checked : List Check → ℕ → Outcome
checked [] size = passes
checked (check ∷ checks) size =
    if nat_lt check.decided_at size then (if check.fails then refuses check.refusal else checked checks size) else ends_before

-- the number that the 8 bytes at a place write
abbrev pub number_at : List ℕ → ℕ → ℕ
number_at bytes place = number_of 256 (take 8 (drop place bytes))

-- The parts of a header: the kind, the name behind its length, and the body length behind the name.
abbrev pub kind_in : List ℕ → ℕ
kind_in bytes = slice_index bytes 5

abbrev pub name_len_in : List ℕ → ℕ
name_len_in bytes = slice_index bytes 6

abbrev pub name_in : List ℕ → List ℕ
name_in bytes = take (name_len_in bytes) (drop 7 bytes)

abbrev pub body_len_place : List ℕ → ℕ
body_len_place bytes = 7 + name_len_in bytes

abbrev pub body_len_in : List ℕ → ℕ
body_len_in bytes = number_at bytes (body_len_place bytes)

abbrev pub header_len_in : List ℕ → ℕ
header_len_in bytes = 15 + name_len_in bytes

unfoldable pub set_in : List ℕ → Option ParamSet
set_in bytes = set_of (name_in bytes)

-- bit k of `kinds` says that kind k is accepted
abbrev pub accepts : ℕ → ℕ → Bool
accepts kinds kind = nat_eq (kinds / 2 ^ kind % 2) 1

-- How many bytes the body of a kind of frame has, by the code of the kind.
abbrev pub needed_by : Option FrameKind → ParamSet → ℕ
needed_by (Some kind) set = body_len_of kind set
needed_by None set = 0

abbrev pub needed_of : ℕ → ParamSet → ℕ
needed_of code set = needed_by (kind_of_code code) set

abbrev pub needed_in : Option ParamSet → ℕ → ℕ
needed_in (Some set) code = needed_of code set
needed_in None code = 0

abbrev pub is_none : Option ParamSet → Bool
is_none None = true
is_none (Some set) = false

-- byte `place` of the magic "SPIR" has to be this one
abbrev pub magic_check : List ℕ → ℕ → ℕ → Check
magic_check bytes place byte = record { decided_at = place; fails = not (nat_eq (slice_index bytes place) byte); refusal = Magic place }

-- the version is 1
abbrev pub version_check : List ℕ → Check
version_check bytes = record { decided_at = 4; fails = not (nat_eq (slice_index bytes 4) 1); refusal = Version 4 (slice_index bytes 4) }

-- the kind is accepted
abbrev pub kind_check : ℕ → List ℕ → Check
kind_check kinds bytes = record { decided_at = 5; fails = not (accepts kinds (kind_in bytes)); refusal = Kind 5 (kind_in bytes) }

-- the name is that of a set
abbrev pub name_check : List ℕ → Check
name_check bytes = record { decided_at = 6 + name_len_in bytes; fails = is_none (set_in bytes); refusal = UnknownSet 7 }

-- whether a body of this kind cannot have so many bytes
abbrev pub wrong_length : ℕ → ℕ → ℕ → Bool
wrong_length kind body needed = if nat_eq kind 6 then nat_lt body needed else not (nat_eq body needed)

-- the body length is the one that the kind needs
abbrev pub body_check : List ℕ → Check
body_check bytes =
    let needed = needed_in (set_in bytes) (kind_in bytes) in
    record { decided_at = 14 + name_len_in bytes; fails = wrong_length (kind_in bytes) (body_len_in bytes) needed; refusal = Length (body_len_place bytes) (body_len_in bytes) needed }

-- the checks from the name on, and those from the version on
abbrev pub name_checks : List ℕ → List Check
name_checks bytes = name_check bytes ∷ body_check bytes ∷ []

abbrev pub version_checks : ℕ → List ℕ → List Check
version_checks kinds bytes = version_check bytes ∷ kind_check kinds bytes ∷ name_checks bytes

-- The checks of a header: the magic "SPIR" byte by byte, version 1, an accepted kind, the name of a set, and the body
-- length that the kind needs.
unfoldable pub header_checks : ℕ → List ℕ → List Check
header_checks kinds bytes =
    magic_check bytes 0 83 ∷ magic_check bytes 1 80 ∷ magic_check bytes 2 73 ∷ magic_check bytes 3 82 ∷ version_checks kinds bytes

-- What a reader of headers answers, by what the checks find: a header that passes is of the set that it names, so that
-- the last case never comes.
abbrev pub whole_header : Option ParamSet → List ℕ → HeaderRead
whole_header (Some set) bytes = Whole (kind_in bytes) set (body_len_in bytes) (header_len_in bytes)
whole_header None bytes = Refused (UnknownSet 7)

abbrev pub read_by : Outcome → List ℕ → HeaderRead
read_by (refuses error) bytes = Refused error
read_by ends_before bytes = More
read_by passes bytes = whole_header (set_in bytes) bytes

-- the front of the bytes, read as a header
unfoldable pub header_read : List ℕ → ℕ → HeaderRead
header_read bytes kinds = read_by (checked (header_checks kinds bytes) (length bytes)) bytes
