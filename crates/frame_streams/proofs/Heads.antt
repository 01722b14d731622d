-- What stands at the front of bytes: a header that is wanting, refused or whole, and behind a whole one what the checks of its body find.
use Rattle.std.proofs.Common.{◌≡◌, ℕ, ◌+◌, ◌<◌, ◌≤◌, ◌≢◌, inl, inr, true, List, [], ◌∷◌, ◌++◌, length, get_or, drop, All, Some, refl, ap, sym, ◌∙◌, arith, length-append, lt-ltb}
use Rattle.std.proofs.lemmas.Bool.{cases_lt}
use Rattle.std.proofs.lemmas.List.{append-nil, get_or_append_left, drop_all}
use Rattle.spiral_sets.specs.declared.param_set.ParamSet.{ParamSet}
use Rattle.spiral_sets.specs.Sets.{IsSet}
use Rattle.frame_headers.specs.declared.frame_error.FrameError.{FrameError}
use Rattle.frame_headers.specs.declared.header.HeaderRead.TheVariants.{More, Refused, Whole}
use Rattle.frame_headers.specs.declared.kind.FrameKind.{FrameKind}
use Rattle.frame_headers.specs.declared.kind.FrameKind.TheVariants.{Database}
use Rattle.frame_headers.specs.Kinds.{code_of_kind, kind_of_code, body_len_of}
use Rattle.frame_headers.specs.Checks.{Outcome, passes, refuses, ends_before, checked, accepts, kind_in, set_in, body_len_in, header_len_in, header_checks, header_read}
use Rattle.frame_headers.proofs.HeaderReading.{header_read_is}
use Rattle.frame_headers.proofs.Outcomes.{and_then, checked-append, all_pass, more_ends, refused_refuses, whole_passes, IsWhole}
use Rattle.spiral_frames.specs.FrameChecks.{more, wrong, checks_by, frame_checks, front_by, front}
use Rattle.frame_streams.specs.Decoding.{AreKinds}
use Rattle.frame_streams.specs.Heads.{header_of, found, NotRefused}
use Rattle.frame_streams.proofs.BehindHeaders.{body_len_fits, right_len, front_at}
use Rattle.frame_streams.proofs.HeaderStages.{wanting_short, passed_named, passed_header, HasHeader}

-- ---- a header that is wanting or refused

-- by what the checks of the header find
front_by_header : (kinds : ℕ) (x : List ℕ)
    → front kinds x
    ≡ front_by (and_then (checked (header_checks kinds x) (length x)) (checked (checks_by (kind_of_code (kind_in x)) (set_in x) x) (length x)))
    (header_len_in x + body_len_in x) (length x)
unfolding front frame_checks
front_by_header kinds x =
    ap (λ (o : Outcome). front_by o (header_len_in x + body_len_in x) (length x))
    (checked-append (header_checks kinds x) (checks_by (kind_of_code (kind_in x)) (set_in x) x) (length x))

module _ (kinds : ℕ) (x : List ℕ) where
  abbrev behind : Outcome
  behind = checked (checks_by (kind_of_code (kind_in x)) (set_in x) x) (length x)

  stands : (o : Outcome) → checked (header_checks kinds x) (length x) ≡ o
      → front kinds x ≡ front_by (and_then o behind) (header_len_in x + body_len_in x) (length x)
  stands o e = front_by_header kinds x ∙ ap (λ (o : Outcome). front_by (and_then o behind) (header_len_in x + body_len_in x) (length x)) e

  -- the header is wanting
  pub header_more : header_read x kinds ≡ More → front kinds x ≡ more
  header_more h = stands ends_before (more_ends (checked (header_checks kinds x) (length x)) x (sym (header_read_is kinds x) ∙ h))

  -- it is refused
  pub header_refused : (error : FrameError) → header_read x kinds ≡ Refused error → front kinds x ≡ wrong error
  header_refused error h =
      stands (refuses error) (refused_refuses (checked (header_checks kinds x) (length x)) x error
      (λ passed. passed_named kinds x (all_pass (header_checks kinds x) (length x) passed)) (sym (header_read_is kinds x) ∙ h))

-- a header that is wanting is short
pub header_size : (kinds : ℕ) (x : List ℕ) → All (λ b. b < 256) x → header_read x kinds ≡ More → length x ≤ 269
header_size kinds x below h =
    elim (cases_lt 6 (length x)) [
      | inl there ↦ omega (arith, wanting_short kinds x h, below 6 0 there)
      | inr short ↦ omega arith
    ]

-- where nothing has come, the header is wanting
pub nothing_yet : (kinds : ℕ) → header_read [] kinds ≡ More
unfolding header_read header_checks checked
nothing_yet kinds = refl

-- ---- a header that is whole

-- The bytes are the header of an accepted kind, other than Database, and of a set.
pub record IsWholeHeader (kinds : ℕ) (bytes : List ℕ) (code : ℕ) (set : ParamSet) : Type 0 where
  pub kind : FrameKind
  pub kind_is : kind_of_code code ≡ Some kind
  pub code_is : code ≡ code_of_kind kind
  pub other : kind ≢ Database
  pub known : IsSet set
  pub accepted : accepts kinds (code_of_kind kind) ≡ true
  pub bytes_are : bytes ≡ header_of kind set

-- one byte behind a header that is wanting makes at most a whole one
at_most_whole : (kinds : ℕ) (x : List ℕ) (byte : ℕ) → header_read x kinds ≡ More → header_len_in (x ++ byte ∷ []) ≤ length (x ++ byte ∷ [])
    → length (x ++ byte ∷ []) ≡ header_len_in (x ++ byte ∷ [])
at_most_whole kinds x byte h long =
    let size : length (x ++ byte ∷ []) ≡ length x + 1 = length-append x (byte ∷ []) in
    elim (cases_lt 6 (length x)) [
      | inl there ↦
          let same : get_or (x ++ byte ∷ []) 6 0 ≡ get_or x 6 0 = get_or_append_left x (byte ∷ []) 0 6 there in
          omega (arith, wanting_short kinds x h, same)
      | inr short ↦ absurd (omega arith)
    ]

-- the header is whole by this byte: it is that of an accepted kind and of a set
pub header_whole : (kinds : ℕ) (x : List ℕ) (byte code : ℕ) (set : ParamSet) (body used : ℕ) → All (λ b. b < 256) (x ++ byte ∷ []) → AreKinds kinds
    → header_read x kinds ≡ More → header_read (x ++ byte ∷ []) kinds ≡ Whole code set body used → IsWholeHeader kinds (x ++ byte ∷ []) code set
header_whole kinds x byte code set body used below are h read =
    let w : List ℕ = x ++ byte ∷ [] in
    let is : IsWhole (checked (header_checks kinds w) (length w)) w code set body used =
    whole_passes (checked (header_checks kinds w) (length w)) w code set body used (sym (header_read_is kinds w) ∙ read) in
    let has : HasHeader kinds w set = passed_header kinds w set below are is.named is.passed in
    let none : drop (header_len_in w) w ≡ [] = drop_all (header_len_in w) w (omega (arith, at_most_whole kinds x byte h has.long)) in
    record {
      kind = has.is_kind.kind;
      kind_is = ap (λ (k : ℕ). kind_of_code k) is.kind_is ∙ has.is_kind.kind_is;
      code_is = is.kind_is ∙ has.is_kind.code_is;
      other = has.is_kind.other;
      known = has.known;
      accepted = ap (λ (k : ℕ). accepts kinds k) (sym has.is_kind.code_is) ∙ has.accepted;
      bytes_are =
          has.front ∙ ap (λ (t : List ℕ). header_of has.is_kind.kind set ++ t) none ∙ append-nil (header_of has.is_kind.kind set);
    }

-- ---- what stands behind a header

module _ (kinds : ℕ) (kind : FrameKind) (set : ParamSet) (body : List ℕ) (known : IsSet set) (other : kind ≢ Database)
    (accepted : accepts kinds (code_of_kind kind) ≡ true) where
  abbrev frame_len : ℕ
  frame_len = length (header_of kind set) + body_len_of kind set

  abbrev size : ℕ
  size = length (header_of kind set ++ body)

  -- what stands at the front behind a header, by what the checks of the body find
  pub front_behind : front kinds (header_of kind set ++ body) ≡ front_by (found kind set body) frame_len size
  front_behind = front_at kinds kind set (body_len_of kind set) body known (body_len_fits kind set known) accepted (right_len kind set other)

  more_by : (o : Outcome) → ((error : FrameError) → o ≡ refuses error → ⊥) → size < frame_len → front_by o frame_len size ≡ more
  more_by passes clean short = rw (lt-ltb size frame_len short) refl
  more_by (refuses error) clean short = absurd (clean error refl)
  more_by ends_before clean short = refl

  -- bytes of the body are wanting, and none is refused
  pub body_more : NotRefused kind set body → length body < body_len_of kind set → front kinds (header_of kind set ++ body) ≡ more
  body_more clean short = front_behind ∙ more_by (found kind set body) clean (omega (arith, length-append (header_of kind set) body))

  -- a byte of the body is refused
  pub body_wrong : (error : FrameError) → found kind set body ≡ refuses error → front kinds (header_of kind set ++ body) ≡ wrong error
  body_wrong error h = front_behind ∙ ap (λ (o : Outcome). front_by o frame_len size) h

  -- where more is wanted, none was refused
  pub body_clean : front kinds (header_of kind set ++ body) ≡ more → NotRefused kind set body
  body_clean h error refused = let no : front kinds (header_of kind set ++ body) ≡ wrong error = body_wrong error refused in cc
