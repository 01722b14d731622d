-- No check refuses an input as Short: that is left to the input's end.
use Rattle.std.proofs.Common.{◌≡◌, ◌≢◌, ℕ, zero, suc, ◌+◌, ◌/◌, Bool, true, false, List, [], ◌∷◌, ◌++◌, length, Option, Some, None, refl, ap, sym, ◌∙◌, arith}
use Rattle.std.specs.Prelude.{nat_lt, if◌then◌else◌}
use Rattle.spiral_sets.specs.declared.param_set.ParamSet.{ParamSet}
use Rattle.spiral_sets.specs.Counts.{setup_len, query_len}
use Rattle.frame_headers.specs.declared.frame_error.FrameError.{FrameError}
use Rattle.frame_headers.specs.declared.frame_error.FrameError.TheVariants.{Short, Magic, Version, Kind, UnknownSet, Length, Residue, RecordLength, TooMany, Ragged, Extra}
use Rattle.frame_headers.specs.declared.kind.FrameKind.{FrameKind}
use Rattle.frame_headers.specs.declared.kind.FrameKind.TheVariants.{Setup, Query, Reply, Refuse, State, Database}
use Rattle.frame_headers.specs.Kinds.{kind_of_code}
use Rattle.frame_headers.specs.Refusals.{code_of}
use Rattle.frame_headers.specs.Checks.{Check, Outcome, passes, refuses, ends_before, checked, kind_in, set_in, body_len_in, header_len_in, header_checks}
use Rattle.spiral_frames.specs.FrameChecks.{Front, more, wrong, whole, front_by, front, residue_checks, reply_checks, secret_checks, state_checks, database_checks, body_checks, checks_by, frame_checks}
use Rattle.frame_streams.specs.Decoding.{Condition, refused, reading, Decoding, begun, moved, decoded, AreKinds}
use Rattle.frame_streams.specs.StreamLaws.{AreBytes, StandsBy}
use Rattle.frame_streams.proofs.Reading.{input_is_read}

-- the refusal of each check has another code than Short
abbrev NotShort : List Check → Type 0
NotShort [] = Unit {0}
NotShort (check ∷ checks) = (code_of check.refusal ≢ 1) × NotShort checks

both_lists : (xs ys : List Check) → NotShort xs → NotShort ys → NotShort (xs ++ ys)
both_lists [] ys hx hy = hy
both_lists (x ∷ xs) ys hx hy = (hx.0, both_lists xs ys hx.1 hy)

header_not_short : (kinds : ℕ) (x : List ℕ) → NotShort (header_checks kinds x)
unfolding header_checks
header_not_short kinds x = (omega arith, (omega arith, (omega arith, (omega arith, (omega arith, (omega arith, (omega arith, (omega arith, tt))))))))

residues_not_short : (x : List ℕ) (place count : ℕ) → NotShort (residue_checks x place count)
unfolding residue_checks
residues_not_short x place zero = tt
residues_not_short x place (suc count) = (omega arith, residues_not_short x (place + 7) count)

secrets_not_short : (x : List ℕ) (place count : ℕ) → NotShort (secret_checks x place count)
unfolding secret_checks
secrets_not_short x place zero = tt
secrets_not_short x place (suc count) = (omega arith, secrets_not_short x (place + 1) count)

reply_not_short : (set : ParamSet) (x : List ℕ) → NotShort (reply_checks set x)
unfolding reply_checks
reply_not_short set x = (omega arith, (omega arith, tt))

state_not_short : (set : ParamSet) (x : List ℕ) → NotShort (state_checks set x)
unfolding state_checks
state_not_short set x = (omega arith, secrets_not_short x _ _)

database_not_short : (set : ParamSet) (x : List ℕ) → NotShort (database_checks set x)
unfolding database_checks
database_not_short set x = (omega arith, (omega arith, (omega arith, tt)))

body_not_short : (kind : FrameKind) (set : ParamSet) (x : List ℕ) → NotShort (body_checks kind set x)
body_not_short Setup set x = residues_not_short x (header_len_in x) (setup_len set / 7)
body_not_short Query set x = residues_not_short x (header_len_in x) (query_len set / 7)
body_not_short Reply set x = reply_not_short set x
body_not_short Refuse set x = tt
body_not_short State set x = state_not_short set x
body_not_short Database set x = database_not_short set x

behind_not_short : (kind : Option FrameKind) (named : Option ParamSet) (x : List ℕ) → NotShort (checks_by kind named x)
behind_not_short (Some kind) (Some set) x = body_not_short kind set x
behind_not_short (Some kind) None x = tt
behind_not_short None named x = tt

frame_not_short : (kinds : ℕ) (x : List ℕ) → NotShort (frame_checks kinds x)
unfolding frame_checks
frame_not_short kinds x =
    both_lists (header_checks kinds x) (checks_by (kind_of_code (kind_in x)) (set_in x) x) (header_not_short kinds x)
    (behind_not_short (kind_of_code (kind_in x)) (set_in x) x)

step_not_short : (decided fails : Bool) (e error : FrameError) (rest : Outcome) → (code_of e ≢ 1) → (rest ≡ refuses error → code_of error ≢ 1)
    → (if decided then (if fails then refuses e else rest) else ends_before) ≡ refuses error → code_of error ≢ 1
step_not_short true true e error rest other behind h = let same : e ≡ error = cc in λ short. other (ap code_of same ∙ short)
step_not_short true false e error rest other behind h = behind h
step_not_short false fails e error rest other behind h = absurd (cc)

checked_not_short : (checks : List Check) (size : ℕ) (error : FrameError) → NotShort checks → checked checks size ≡ refuses error → code_of error ≢ 1
unfolding checked
checked_not_short [] size error other h = absurd (cc)
checked_not_short (check ∷ checks) size error other h =
    step_not_short (nat_lt check.decided_at size) check.fails check.refusal error (checked checks size) other.0
    (checked_not_short checks size error other.1) h

by_not_short : (outcome : Outcome) (len size : ℕ) (error : FrameError) → front_by outcome len size ≡ wrong error → outcome ≡ refuses error
by_not_short (refuses e) len size error h = let same : e ≡ error = cc in ap refuses same
by_not_short ends_before len size error h = absurd (cc)
by_not_short passes len size error h = absurd (never (nat_lt size len) len error h) where
  never : (short : Bool) (len : ℕ) (error : FrameError) → (if short then more else whole len) ≡ wrong error → ⊥
  never true len error h = cc
  never false len error h = cc

-- What refuses the front of bytes isn't that they end.
pub front_not_short : (kinds : ℕ) (x : List ℕ) (error : FrameError) → front kinds x ≡ wrong error → code_of error ≢ 1
unfolding front
front_not_short kinds x error h =
    checked_not_short (frame_checks kinds x) (length x) error (frame_not_short kinds x)
    (by_not_short (checked (frame_checks kinds x) (length x)) (header_len_in x + body_len_in x) (length x) error h)

-- a refusal keeps its code, wherever it is counted from
pub code-moved : (by : ℕ) (error : FrameError) → code_of (moved by error) ≡ code_of error
code-moved by (Short place) = refl
code-moved by (Magic place) = refl
code-moved by (Version place value) = refl
code-moved by (Kind place value) = refl
code-moved by (UnknownSet place) = refl
code-moved by (Length place value needed) = refl
code-moved by (Residue place value bound) = refl
code-moved by (RecordLength place value) = refl
code-moved by (TooMany place value) = refl
code-moved by (Ragged place value) = refl
code-moved by (Extra place) = refl

same_refusal : (a b : FrameError) → refused a ≡ refused b → a ≡ b
same_refusal a b h = cc

refused_not_short : (kinds : ℕ) (found : Front) (at : ℕ) (rest : List ℕ) (condition : Condition) (error : FrameError) → front kinds rest ≡ found
    → StandsBy found at rest condition → condition ≡ refused error → code_of error ≢ 1
refused_not_short kinds more at rest condition error is stands h = let both : reading rest ≡ refused error = sym stands ∙ h in absurd (cc)
refused_not_short kinds (wrong e) at rest condition error is stands h =
    let same : error ≡ moved at e = same_refusal error (moved at e) (sym h ∙ stands) in
    λ short. front_not_short kinds rest e is (sym (ap code_of same ∙ code-moved at e) ∙ short)
refused_not_short kinds (whole len) at rest condition error is stands h = absurd stands

-- The refusal of an input that was read is not that it ends.
pub input_not_short : (kinds : ℕ) (x : List ℕ) (error : FrameError) → AreBytes x → AreKinds kinds → (decoded (begun kinds) x).condition ≡ refused error
    → code_of error ≢ 1
input_not_short kinds x error below are h =
    let r = input_is_read kinds x below are in
    let d : Decoding = decoded (begun kinds) x in
    refused_not_short kinds (front kinds r.rest) d.at r.rest d.condition error refl r.stands h
