-- What reading on keeps, whatever comes, and how far it gets; where refusals stand; and that a body of which nothing has come isn't refused.
use Rattle.std.proofs.Common.{◌≡◌, ℕ, zero, suc, ◌+◌, ◌*◌, ◌/◌, ◌^◌, ◌<◌, ◌≤◌, Bool, true, false, List, [], ◌∷◌, ◌++◌, length, refl, ap, sym, ◌∙◌, arith, Option, Some, None, append_assoc, length-append, subst}
use Rattle.std.specs.Prelude.{nat_lt, if◌then◌else◌}
use Rattle.std.proofs.lemmas.Bool.{ltb-true}
use Rattle.std.proofs.lemmas.List.{append-nil}
use Rattle.spiral_sets.specs.declared.param_set.ParamSet.{ParamSet}
use Rattle.spiral_sets.specs.Sets.{IsSet}
use Rattle.spiral_sets.specs.Counts.{setup_len, query_len}
use Rattle.frame_headers.specs.declared.frame_error.FrameError.{FrameError}
use Rattle.frame_headers.specs.declared.kind.FrameKind.{FrameKind}
use Rattle.frame_headers.specs.declared.kind.FrameKind.TheVariants.{Setup, Query, Reply, Refuse, State, Database}
use Rattle.frame_headers.specs.Refusals.{place_of}
use Rattle.frame_headers.specs.Kinds.{code_of_kind, kind_of_code, body_len_of}
use Rattle.frame_headers.specs.Checks.{Check, Outcome, passes, refuses, ends_before, checked, header_checks, kind_in, set_in, header_len_in, body_len_in}
use Rattle.frame_headers.proofs.HeaderReading.{checked-ends, checked-none}
use Rattle.spiral_frames.specs.Frames.{Message}
use Rattle.spiral_frames.specs.FrameChecks.{Front, more, wrong, whole, front_by, front, frame_checks, checks_by, body_checks, residue_checks, reply_checks, secret_checks, state_checks, database_checks}
use Rattle.frame_streams.specs.Decoding.{Placed, Condition, refused, wanting, reading, Decoding, HasRoom, RoomIn, with_message, by_front, after, step_by, step, decoded}
use Rattle.frame_streams.specs.Parsing.{message_in}
use Rattle.frame_streams.specs.Heads.{header_of, NotRefused}
use Rattle.frame_streams.proofs.Agreeing.{front_is, whole_within}
use Rattle.frame_streams.proofs.BehindHeaders.{size_is, body_len_fits}

-- ---- what reading on keeps

-- the kinds and the place of the message taken last are the same, and messages have only come behind those that were there
pub record IsOnwards (d e : Decoding) : Type 0 where
  pub kinds : e.kinds ≡ d.kinds
  pub last : e.last ≡ d.last
  pub more : List Placed
  pub ready : e.ready ≡ d.ready ++ more

pub same_onwards : (d : Decoding) → IsOnwards d d
same_onwards d = record { kinds = refl; last = refl; more = []; ready = sym (append-nil d.ready) }

pub then_onwards : (d e f : Decoding) → IsOnwards d e → IsOnwards e f → IsOnwards d f
then_onwards d e f one two = record {
  kinds = two.kinds ∙ one.kinds;
  last = two.last ∙ one.last;
  more = one.more ++ two.more;
  ready = two.ready ∙ ap (λ (placed : List Placed). placed ++ two.more) one.ready ∙ append_assoc d.ready one.more two.more;
}

message_onwards : (placed : List Placed) (place : ℕ) (m : Option Message) → (more : List Placed) × (with_message placed place m ≡ placed ++ more)
message_onwards placed place (Some m) = (record { place = place; message = m } ∷ [], refl)
message_onwards placed place None = ([], sym (append-nil placed))

by_front_onwards : (d : Decoding) (bytes : List ℕ) (f : Front) → IsOnwards d (by_front d bytes f)
by_front_onwards d bytes more = record { kinds = refl; last = refl; more = []; ready = sym (append-nil d.ready) }
by_front_onwards d bytes (wrong error) = record { kinds = refl; last = refl; more = []; ready = sym (append-nil d.ready) }
by_front_onwards d bytes (whole len) =
    let m = message_onwards d.ready d.at (message_in bytes) in
    record { kinds = refl; last = refl; more = m.0; ready = m.1 }

after_onwards : (d : Decoding) (bytes : List ℕ) → IsOnwards d (after d bytes)
unfolding after
after_onwards d bytes = by_front_onwards d bytes (front d.kinds bytes)

step_by_onwards : (c : Condition) (d : Decoding) (byte : ℕ) → IsOnwards d (step_by c d byte)
step_by_onwards (reading bytes) d byte = after_onwards d (bytes ++ byte ∷ [])
step_by_onwards (refused error) d byte = same_onwards d
step_by_onwards wanting d byte = same_onwards d

step_onwards : (d : Decoding) (byte : ℕ) → IsOnwards d (step d byte)
unfolding step
step_onwards d byte = step_by_onwards d.condition d byte

pub onwards : (d : Decoding) (x : List ℕ) → IsOnwards d (decoded d x)
unfolding decoded
onwards d [] = same_onwards d
onwards d (byte ∷ x) = then_onwards d (step d byte) (decoded (step d byte) x) (step_onwards d byte) (onwards (step d byte) x)

-- ---- the place behind what has come

by_front_room : (d : Decoding) (bytes : List ℕ) (n : ℕ) (f : Front) → ((len : ℕ) → f ≡ whole len → len ≤ length bytes) → d.at + length bytes + n < 2 ^ 64
    → HasRoom (by_front d bytes f) n
by_front_room d bytes n more within room = room
by_front_room d bytes n (wrong error) within room = tt
by_front_room d bytes n (whole len) within room = omega (arith, within len refl)

after_room : (d : Decoding) (bytes : List ℕ) (n : ℕ) → d.at + length bytes + n < 2 ^ 64 → HasRoom (after d bytes) n
unfolding after
after_room d bytes n room = by_front_room d bytes n (front d.kinds bytes) (λ len is. whole_within d.kinds bytes len is) room

step_room_by : (c : Condition) (d : Decoding) (byte n : ℕ) → d.condition ≡ c → HasRoom d (n + 1) → HasRoom (step_by c d byte) n
step_room_by (reading bytes) d byte n is room =
    let now : d.at + length bytes + (n + 1) < 2 ^ 64 = subst (λ (c : Condition). RoomIn c d.at (n + 1)) is room in
    after_room d (bytes ++ byte ∷ []) n (omega (arith, length-append bytes (byte ∷ [])))
step_room_by (refused error) d byte n is room = subst (λ (c : Condition). RoomIn c d.at n) (sym is) tt
step_room_by wanting d byte n is room = subst (λ (c : Condition). RoomIn c d.at n) (sym is) tt

step_room : (d : Decoding) (byte n : ℕ) → HasRoom d (n + 1) → HasRoom (step d byte) n
unfolding step
step_room d byte n room = step_room_by d.condition d byte n refl room

-- The place behind the bytes that have come fits its number still, where there was room for these and n more.
pub room_kept : (d : Decoding) (x : List ℕ) (n : ℕ) → HasRoom d (length x + n) → HasRoom (decoded d x) n
unfolding decoded
room_kept d [] n room =
    let none : 0 + n ≡ n = omega arith in
    subst (λ (k : ℕ). HasRoom d k) none room
room_kept d (byte ∷ x) n room =
    let one_less : length (byte ∷ x) + n ≡ length x + n + 1 = omega arith in
    room_kept (step d byte) x n (step_room d byte (length x + n) (subst (λ (k : ℕ). HasRoom d k) one_less room))

-- ---- where refusals stand

-- a refusal stands no further on than behind the byte that decides it
abbrev IsPlaced : Check → Type 0
IsPlaced check = place_of check.refusal ≤ check.decided_at + 1

abbrev ArePlaced : List Check → Type 0
ArePlaced [] = Unit {0}
ArePlaced (check ∷ checks) = IsPlaced check × ArePlaced checks

placed-append : (checks others : List Check) → ArePlaced checks → ArePlaced others → ArePlaced (checks ++ others)
placed-append [] others first second = second
placed-append (check ∷ checks) others first second = (first.0, placed-append checks others first.1 second)

refused_place : (error refusal : FrameError) (rest : Outcome) (at size : ℕ) (decided fails : Bool) → (decided ≡ true → at < size) → place_of refusal ≤ at + 1
    → (rest ≡ refuses error → place_of error ≤ size)
    → (if decided then (if fails then refuses refusal else rest) else ends_before) ≡ refuses error → place_of error ≤ size
refused_place error refusal rest at size true true before placed later h =
    let same : refusal ≡ error = cc in
    let low : at < size = before refl in
    omega (arith, ap place_of same)
refused_place error refusal rest at size true false before placed later h = later h
refused_place error refusal rest at size false fails before placed later h = absurd (cc)

checked_place : (error : FrameError) (checks : List Check) (size : ℕ) → ArePlaced checks → checked checks size ≡ refuses error → place_of error ≤ size
unfolding checked
checked_place error [] size placed h = absurd (cc)
checked_place error (check ∷ checks) size placed h =
    refused_place error check.refusal (checked checks size) check.decided_at size (nat_lt check.decided_at size) check.fails
    (ltb-true check.decided_at size) placed.0 (checked_place error checks size placed.1) h

header_placed : (kinds : ℕ) (bytes : List ℕ) → ArePlaced (header_checks kinds bytes)
unfolding header_checks
header_placed kinds bytes =
    (omega arith, (omega arith, (omega arith, (omega arith, (omega arith, (omega arith, (omega arith, (omega arith, tt))))))))

residues_placed : (bytes : List ℕ) (place count : ℕ) → ArePlaced (residue_checks bytes place count)
unfolding residue_checks
residues_placed bytes place zero = tt
residues_placed bytes place (suc count) = (omega arith, residues_placed bytes (place + 7) count)

secrets_placed : (bytes : List ℕ) (place count : ℕ) → ArePlaced (secret_checks bytes place count)
unfolding secret_checks
secrets_placed bytes place zero = tt
secrets_placed bytes place (suc count) = (omega arith, secrets_placed bytes (place + 1) count)

body_placed : (kind : FrameKind) (set : ParamSet) (bytes : List ℕ) → ArePlaced (body_checks kind set bytes)
unfolding reply_checks state_checks database_checks
body_placed Setup set bytes = residues_placed bytes (header_len_in bytes) (setup_len set / 7)
body_placed Query set bytes = residues_placed bytes (header_len_in bytes) (query_len set / 7)
body_placed Reply set bytes = (omega arith, (omega arith, tt))
body_placed Refuse set bytes = tt
body_placed State set bytes = (omega arith, secrets_placed bytes (header_len_in bytes + 8) (set.n * set.degree))
body_placed Database set bytes = (omega arith, (omega arith, (omega arith, tt)))

by_placed : (kind : Option FrameKind) (set : Option ParamSet) (bytes : List ℕ) → ArePlaced (checks_by kind set bytes)
by_placed (Some kind) (Some set) bytes = body_placed kind set bytes
by_placed (Some kind) None bytes = tt
by_placed None set bytes = tt

frame_placed : (kinds : ℕ) (bytes : List ℕ) → ArePlaced (frame_checks kinds bytes)
unfolding frame_checks
frame_placed kinds bytes =
    placed-append (header_checks kinds bytes) (checks_by (kind_of_code (kind_in bytes)) (set_in bytes) bytes) (header_placed kinds bytes)
    (by_placed (kind_of_code (kind_in bytes)) (set_in bytes) bytes)

not_wrong : (short : Bool) (len : ℕ) (error : FrameError) → (if short then more else whole len) ≡ wrong error → ⊥
not_wrong true len error h = cc
not_wrong false len error h = cc

refused_by : (outcome : Outcome) (len size : ℕ) (error : FrameError) → front_by outcome len size ≡ wrong error → outcome ≡ refuses error
refused_by (refuses refusal) len size error h = let same : refusal ≡ error = cc in ap (λ (e : FrameError). refuses e) same
refused_by ends_before len size error h = absurd (cc)
refused_by passes len size error h = absurd (not_wrong (nat_lt size len) len error h)

-- the place of a refusal is no further on than the bytes that have come
pub wrong_place : (kinds : ℕ) (x : List ℕ) (error : FrameError) → front kinds x ≡ wrong error → place_of error ≤ length x
wrong_place kinds x error h =
    checked_place error (frame_checks kinds x) (length x) (frame_placed kinds x)
    (refused_by (checked (frame_checks kinds x) (length x)) (header_len_in x + body_len_in x) (length x) error (sym (front_is kinds x) ∙ h))

-- ---- a body of which nothing has come

-- the first check is decided behind so many bytes
abbrev IsLater : List Check → ℕ → Type 0
IsLater [] size = Unit {0}
IsLater (check ∷ checks) size = size ≤ check.decided_at

not_yet : (checks : List Check) (size : ℕ) (error : FrameError) → IsLater checks size → checked checks size ≡ refuses error → ⊥
not_yet [] size error later h = let none : passes ≡ refuses error = sym (checked-none size) ∙ h in cc
not_yet (check ∷ checks) size error later h =
    let none : ends_before ≡ refuses error = sym (checked-ends check checks size later) ∙ h in cc

residues_later : (bytes : List ℕ) (place count size : ℕ) → size ≤ place → IsLater (residue_checks bytes place count) size
unfolding residue_checks
residues_later bytes place zero size h = tt
residues_later bytes place (suc count) size h = omega arith

body_later : (kind : FrameKind) (set : ParamSet) (bytes : List ℕ) (size : ℕ) → size ≤ header_len_in bytes → IsLater (body_checks kind set bytes) size
unfolding reply_checks state_checks database_checks
body_later Setup set bytes size h = residues_later bytes (header_len_in bytes) (setup_len set / 7) size h
body_later Query set bytes size h = residues_later bytes (header_len_in bytes) (query_len set / 7) size h
body_later Reply set bytes size h = omega arith
body_later Refuse set bytes size h = tt
body_later State set bytes size h = omega arith
body_later Database set bytes size h = omega arith

-- it isn't refused
pub begins_clean : (kind : FrameKind) (set : ParamSet) → IsSet set → NotRefused kind set []
begins_clean kind set known error h =
    let bytes : List ℕ = header_of kind set ++ [] in
    let size : length bytes ≤ header_len_in bytes =
    omega (arith, size_is (code_of_kind kind) set (body_len_of kind set) [] known (body_len_fits kind set known)) in
    not_yet (body_checks kind set bytes) (length bytes) error (body_later kind set bytes (length bytes) size) h
