-- Frames and refusals on small cases that were worked out by hand.
use Rattle.std.proofs.Common.{◌≡◌, ℕ, List, [], ◌∷◌, ◌++◌, ◌^◌, take, drop, get_or, refl, Some, None}
use Rattle.negacyclic.specs.Digits.{digit, digits, number_of}
use Rattle.spiral_sets.specs.declared.param_set.ParamSet.{ParamSet}
use Rattle.spiral_sets.proofs.SampleSet.{sample, edge}
use Rattle.spiral_sets.specs.declared.sets.TheConstants.{SETS}
use Rattle.spiral_sets.specs.Sets.{q}
use Rattle.frame_headers.specs.declared.frame_error.FrameError.TheVariants.{Short, Magic, Kind, UnknownSet, Length, Residue, RecordLength, TooMany, Ragged, Extra}
use Rattle.frame_headers.specs.Headers.{header}
use Rattle.frame_headers.specs.Checks.{checked, passes, refuses, ends_before, set_in, header_checks}
use Rattle.spiral_model.specs.Databases.{RecordTable}
use Rattle.spiral_frames.specs.Frames.{cipher_bytes, refuse_body, database_body, frame_of, setup_message, refuse_message, database_message}
use Rattle.spiral_frames.specs.FrameChecks.{residue_checks, reply_checks, secret_checks, state_checks, database_checks, database_refusal, frame_checks, front, more, wrong, whole, one_refusal}

-- A database of edge-256: two records of 4 bytes.
abbrev two_records : RecordTable
two_records = record { set = edge; record_length = 4; bytes = 1 ∷ 2 ∷ 3 ∷ 4 ∷ 5 ∷ 6 ∷ 7 ∷ 8 ∷ [] }

abbrev two_records_frame : List ℕ
two_records_frame =
    83 ∷ 80 ∷ 73 ∷ 82 ∷ 1 ∷ 6 ∷ 8 ∷ 101 ∷ 100 ∷ 103 ∷ 101 ∷ 45 ∷ 50 ∷ 53 ∷ 54 ∷ 24 ∷ 0 ∷ 0 ∷ 0 ∷ 0 ∷ 0 ∷ 0 ∷ 0
    ∷ 2 ∷ 0 ∷ 0 ∷ 0 ∷ 0 ∷ 0 ∷ 0 ∷ 0 ∷ 4 ∷ 0 ∷ 0 ∷ 0 ∷ 0 ∷ 0 ∷ 0 ∷ 0 ∷ 1 ∷ 2 ∷ 3 ∷ 4 ∷ 5 ∷ 6 ∷ 7 ∷ 8 ∷ []

two_records_spelled : frame_of (database_message two_records) ≡ two_records_frame
unfolding frame_of header database_body digits digit
two_records_spelled = refl

-- Its frame is not refused; with a byte more, a byte less, or nothing at all it is.
frame_refusals : (database_refusal two_records_frame ≡ None)
    × (database_refusal (two_records_frame ++ 0 ∷ []) ≡ Some (Extra 47))
    × (database_refusal (take 46 two_records_frame) ≡ Some (Short 46))
    × (database_refusal [] ≡ Some (Short 0))
unfolding database_refusal checked set_in header_checks database_checks number_of
frame_refusals = (refl, refl, refl, refl)

-- a frame's front with these numbers
abbrev database_front : ℕ → ℕ → ℕ → List ℕ
database_front body count len = take 15 two_records_frame ++ digits 256 8 body ++ digits 256 8 count ++ digits 256 8 len

-- a body length below 16 or not 16 bytes and the records; a count and a length that are too large; a length of 0
number_refusals : (database_refusal (database_front 15 1 4) ≡ Some (Length 15 15 16))
    × (database_refusal (database_front 16 5 4) ≡ Some (TooMany 23 5))
    × (database_refusal (database_front 16 1 0) ≡ Some (RecordLength 31 0))
    × (database_refusal (database_front 1041 1 1025) ≡ Some (RecordLength 31 1025))
    × (database_refusal (database_front 23 2 4) ≡ Some (Ragged 15 23))
    × (database_refusal (database_front 18446744073709551615 1 4) ≡ Some (Ragged 15 18446744073709551615))
unfolding database_refusal checked set_in header_checks database_checks number_of digits digit
number_refusals = (refl, refl, refl, refl, refl, refl)

-- another magic, another kind, and a name of no set
header_refusals : (database_refusal (83 ∷ 80 ∷ 73 ∷ 83 ∷ []) ≡ Some (Magic 3))
    × (database_refusal (83 ∷ 80 ∷ 73 ∷ 82 ∷ 1 ∷ 7 ∷ []) ≡ Some (Kind 5 7))
    × (database_refusal (83 ∷ 80 ∷ 73 ∷ 82 ∷ 1 ∷ 6 ∷ 0 ∷ []) ≡ Some (UnknownSet 7))
unfolding database_refusal checked set_in header_checks database_checks number_of
header_refusals = (refl, refl, refl)

-- A Refuse of spiral-2048 with code 12 at place 0, and the Setup of a set without keys, which has no body.
abbrev spiral : ParamSet
spiral = get_or SETS 5 sample

refuse_spelled : frame_of (refuse_message (record { set = spiral; code = 12; place = 0 }))
    ≡ 83 ∷ 80 ∷ 73 ∷ 82 ∷ 1 ∷ 4 ∷ 11 ∷ 115 ∷ 112 ∷ 105 ∷ 114 ∷ 97 ∷ 108 ∷ 45 ∷ 50 ∷ 48 ∷ 52 ∷ 56
    ∷ 9 ∷ 0 ∷ 0 ∷ 0 ∷ 0 ∷ 0 ∷ 0 ∷ 0 ∷ 12 ∷ 0 ∷ 0 ∷ 0 ∷ 0 ∷ 0 ∷ 0 ∷ 0 ∷ 0 ∷ []
unfolding frame_of header refuse_body digits digit
refuse_spelled = refl

setup_spelled : frame_of (setup_message (record { set = edge; ciphers = [] }))
    ≡ 83 ∷ 80 ∷ 73 ∷ 82 ∷ 1 ∷ 1 ∷ take 9 (drop 6 two_records_frame) ++ 0 ∷ 0 ∷ 0 ∷ 0 ∷ 0 ∷ 0 ∷ 0 ∷ 0 ∷ []
unfolding frame_of header cipher_bytes digits digit
setup_spelled = refl

-- the front of a frame of edge-256, up to its body length
abbrev edge_front : ℕ → ℕ → List ℕ
edge_front kind body = 83 ∷ 80 ∷ 73 ∷ 82 ∷ 1 ∷ kind ∷ take 9 (drop 6 two_records_frame) ++ digits 256 8 body

-- A State whose index isn't below 4, and a secret byte above 2; a Reply of too many records, and of too long ones.
state_refusals : (one_refusal (2 ^ 5) (edge_front 5 520 ++ digits 256 8 4) ≡ Some (Residue 23 4 4))
    × (one_refusal (2 ^ 5) (edge_front 5 520 ++ digits 256 8 3 ++ 3 ∷ []) ≡ Some (Residue 31 3 3))
    × (one_refusal (2 ^ 5) (edge_front 5 520 ++ digits 256 8 3 ++ 2 ∷ []) ≡ Some (Short 32))
    × (one_refusal (2 ^ 5) [] ≡ Some (Short 0))
unfolding one_refusal front frame_checks checked set_in header_checks state_checks secret_checks number_of digits digit
state_refusals = (refl, refl, refl, refl)

reply_refusals : (one_refusal (2 ^ 3) (edge_front 3 2064 ++ digits 256 8 5) ≡ Some (TooMany 23 5))
    × (one_refusal (2 ^ 3) (edge_front 3 2064 ++ digits 256 8 4 ++ digits 256 8 1025) ≡ Some (RecordLength 31 1025))
unfolding one_refusal front frame_checks checked set_in header_checks reply_checks number_of digits digit
reply_refusals = (refl, refl)

-- q is no residue, and q - 1 is one.
residues_checked : (checked (residue_checks (1 ∷ 0 ∷ 223 ∷ 30 ∷ 32 ∷ 241 ∷ 237 ∷ []) 0 1) 7 ≡ refuses (Residue 0 q q))
    × (checked (residue_checks (0 ∷ 0 ∷ 223 ∷ 30 ∷ 32 ∷ 241 ∷ 237 ∷ []) 0 1) 7 ≡ passes)
    × (checked (residue_checks (0 ∷ 0 ∷ 223 ∷ 30 ∷ 32 ∷ 241 ∷ []) 0 1) 6 ≡ ends_before)
unfolding residue_checks checked number_of q
residues_checked = (refl, refl, refl)

-- What stands at the front of the two records' frame: all of it, or more is wanted.
front_by_hand : (front (2 ^ 6) (two_records_frame ++ 0 ∷ []) ≡ whole 47) × (front (2 ^ 6) (take 46 two_records_frame) ≡ more)
    × (front (2 ^ 5) two_records_frame ≡ wrong (Kind 5 6)) × (one_refusal (2 ^ 6) two_records_frame ≡ None)
unfolding one_refusal front frame_checks checked set_in header_checks database_checks number_of
front_by_hand = (refl, refl, refl, refl)
