-- How an input is refused that should be one frame. Behind the header's checks stand those of the body, in the order in which the bytes
-- come that decide them; the first that fails gives the refusal.
use Rattle.std.specs.Prelude.{ℕ, zero, suc, List, [], ◌∷◌, ◌++◌, ◌+◌, ◌*◌, ◌/◌, ◌^◌, ◌||◌, not, length, take, drop, slice_index, nat_lt, nat_eq, if◌then◌else◌, Option, Some, None}
use Rattle.negacyclic.specs.Digits.{number_of}
use Rattle.spiral_sets.specs.declared.param_set.ParamSet.{ParamSet}
use Rattle.spiral_sets.specs.Sets.{q, max_records, capacity}
use Rattle.spiral_sets.specs.Counts.{setup_len, query_len}
use Rattle.frame_headers.specs.declared.frame_error.FrameError.{FrameError}
use Rattle.frame_headers.specs.declared.frame_error.FrameError.TheVariants.{Short, Residue, RecordLength, TooMany, Ragged, Extra}
use Rattle.frame_headers.specs.declared.kind.FrameKind.{FrameKind}
use Rattle.frame_headers.specs.declared.kind.FrameKind.TheVariants.{Setup, Query, Reply, Refuse, State, Database}
use Rattle.frame_headers.specs.Kinds.{kind_of_code}
use Rattle.frame_headers.specs.Checks.{Check, Outcome, passes, refuses, ends_before, checked, number_at, kind_in, set_in, body_len_place, body_len_in, header_len_in, header_checks}

-- ---- the checks of each kind's body, which starts behind the header

-- the residue that the 7 bytes at a place write
abbrev pub residue_at : List ℕ → ℕ → ℕ
residue_at bytes place = number_of 256 (take 7 (drop place bytes))

-- So many residues from a place on, 7 bytes each: each is below q.
unfoldable pub residue_checks : List ℕ → ℕ → ℕ → List Check
residue_checks bytes place zero = []
residue_checks bytes place (suc count) =
    record { decided_at = place + 6; fails = not (nat_lt (residue_at bytes place) q); refusal = Residue place (residue_at bytes place) q }
    ∷ residue_checks bytes (place + 7) count

-- The count and the length of a Reply or a Database, 8 bytes each.
abbrev pub count_check : ParamSet → List ℕ → ℕ → Check
count_check set bytes start =
    record { decided_at = start + 7; fails = nat_lt (max_records set) (number_at bytes start); refusal = TooMany start (number_at bytes start) }

abbrev pub length_check : ParamSet → List ℕ → ℕ → Check
length_check set bytes start =
    let len = number_at bytes (start + 8) in
    record { decided_at = start + 15; fails = nat_eq len 0 || nat_lt (capacity set) len; refusal = RecordLength (start + 8) len }

unfoldable pub reply_checks : ParamSet → List ℕ → List Check
reply_checks set bytes = count_check set bytes (header_len_in bytes) ∷ length_check set bytes (header_len_in bytes) ∷ []

-- The index of a State is below the number of records, and each byte of its secret is 0, 1 or 2.
abbrev pub index_check : ParamSet → List ℕ → ℕ → Check
index_check set bytes start =
    let index = number_at bytes start in
    record { decided_at = start + 7; fails = not (nat_lt index (max_records set)); refusal = Residue start index (max_records set) }

-- So many bytes of a secret from a place on.
unfoldable pub secret_checks : List ℕ → ℕ → ℕ → List Check
secret_checks bytes place zero = []
secret_checks bytes place (suc count) =
    record { decided_at = place; fails = nat_lt 2 (slice_index bytes place); refusal = Residue place (slice_index bytes place) 3 }
    ∷ secret_checks bytes (place + 1) count

unfoldable pub state_checks : ParamSet → List ℕ → List Check
state_checks set bytes =
    index_check set bytes (header_len_in bytes) ∷ secret_checks bytes (header_len_in bytes + 8) (set.n * set.degree)

-- The checks of a Database's first numbers: the count of its records, their length, and the body length that both together give.
unfoldable pub database_checks : ParamSet → List ℕ → List Check
database_checks set bytes =
    let start = header_len_in bytes in
    count_check set bytes start ∷ length_check set bytes start
    ∷ record {
      decided_at = start + 15;
      fails = not (nat_eq (body_len_in bytes) (16 + number_at bytes start * number_at bytes (start + 8)));
      refusal = Ragged (body_len_place bytes) (body_len_in bytes);
    }
    ∷ []

-- the checks of a body, by the kind of the frame; a Refuse has none
abbrev pub body_checks : FrameKind → ParamSet → List ℕ → List Check
body_checks Setup set bytes = residue_checks bytes (header_len_in bytes) (setup_len set / 7)
body_checks Query set bytes = residue_checks bytes (header_len_in bytes) (query_len set / 7)
body_checks Reply set bytes = reply_checks set bytes
body_checks Refuse set bytes = []
body_checks State set bytes = state_checks set bytes
body_checks Database set bytes = database_checks set bytes

-- those behind the header, where it names a kind and a set
abbrev pub checks_by : Option FrameKind → Option ParamSet → List ℕ → List Check
checks_by (Some kind) (Some set) bytes = body_checks kind set bytes
checks_by (Some kind) None bytes = []
checks_by None named bytes = []

-- all checks of a frame whose kind is among `kinds`
unfoldable pub frame_checks : ℕ → List ℕ → List Check
frame_checks kinds bytes = header_checks kinds bytes ++ checks_by (kind_of_code (kind_in bytes)) (set_in bytes) bytes

-- ---- what stands at the front of bytes

-- More bytes are wanted; the bytes are refused; or a whole frame of so many bytes.
pub data Front : Type 0 where
  more : Front
  wrong : FrameError → Front
  whole : ℕ → Front

abbrev pub front_by : Outcome → ℕ → ℕ → Front
front_by (refuses error) frame_len size = wrong error
front_by ends_before frame_len size = more
front_by passes frame_len size = if nat_lt size frame_len then more else whole frame_len

unfoldable pub front : ℕ → List ℕ → Front
front kinds bytes = front_by (checked (frame_checks kinds bytes) (length bytes)) (header_len_in bytes + body_len_in bytes) (length bytes)

-- The refusal of an input that has to be one frame: Short at the input's end, Extra at the first byte past the frame.
abbrev pub one_by : Front → ℕ → Option FrameError
one_by more size = Some (Short size)
one_by (wrong error) size = Some error
one_by (whole frame_len) size = if nat_lt frame_len size then Some (Extra frame_len) else None

unfoldable pub one_refusal : ℕ → List ℕ → Option FrameError
one_refusal kinds bytes = one_by (front kinds bytes) (length bytes)

-- ---- Database frames

-- the checks that follow the header's, where it names a set
abbrev pub after_header : Option ParamSet → List ℕ → List Check
after_header (Some set) bytes = database_checks set bytes
after_header None bytes = []

-- The refusal of an input that has to be a whole frame of this size, from what its checks find: Short at the input's
-- end, and Extra at the first byte past the frame.
abbrev pub whole_refusal : Outcome → ℕ → ℕ → Option FrameError
whole_refusal (refuses error) frame_len size = Some error
whole_refusal ends_before frame_len size = Some (Short size)
whole_refusal passes frame_len size = if nat_lt size frame_len then Some (Short size) else (if nat_lt frame_len size then Some (Extra frame_len) else None)

-- The checks of a Database's first bytes, and what they find.
abbrev pub front_checks : List ℕ → List Check
front_checks bytes = header_checks (2 ^ 6) bytes ++ after_header (set_in bytes) bytes

abbrev pub front_outcome : List ℕ → Outcome
front_outcome bytes = checked (front_checks bytes) (length bytes)

-- The refusal of an input that has to be one Database frame, kind 6; none exactly where it is one.
unfoldable pub database_refusal : List ℕ → Option FrameError
database_refusal bytes = whole_refusal (front_outcome bytes) (header_len_in bytes + body_len_in bytes) (length bytes)
