-- Bytes that begin with the header of a kind and a set: their parts, and what stands at their front.
use Rattle.std.proofs.Common.{◌≡◌, ℕ, ◌+◌, ◌^◌, ◌<◌, ◌≤◌, ◌≢◌, true, false, not, List, ◌∷◌, ◌++◌, length, get_or, drop, Option, Some, refl, ap, sym, ◌∙◌, arith, lit<, length-append, eq-eqb}
use Rattle.std.specs.Prelude.{nat_eq}
use Rattle.std.proofs.lemmas.List.{drop-drop, drop_at, get_or-append-add}
use Rattle.spiral_sets.specs.declared.param_set.ParamSet.{ParamSet}
use Rattle.spiral_sets.specs.Sets.{IsSet, name_of}
use Rattle.spiral_sets.specs.Counts.{setup_len, query_len, reply_len, state_len}
use Rattle.spiral_sets.proofs.SetBounds.{at_most}
use Rattle.frame_headers.specs.declared.kind.FrameKind.{FrameKind}
use Rattle.frame_headers.specs.declared.kind.FrameKind.TheVariants.{Setup, Query, Reply, Refuse, State, Database}
use Rattle.frame_headers.specs.Kinds.{code_of_kind, kind_of_code, body_len_of}
use Rattle.frame_headers.specs.Headers.{header, number}
use Rattle.frame_headers.specs.Checks.{Check, Outcome, checked, accepts, is_none, wrong_length, needed_in, needed_of, kind_in, set_in, body_len_in, header_len_in, name_checks, header_checks}
use Rattle.frame_headers.proofs.HeaderLaws.{length-header, header_parts}
use Rattle.frame_headers.proofs.Outcomes.{AllPass, passed_all, and_then, checked-append}
use Rattle.spiral_frames.specs.FrameChecks.{body_checks, checks_by, frame_checks, front_by, front}
use Rattle.frame_streams.specs.Heads.{header_of}
use Rattle.frame_streams.proofs.HeadersBack.{kind_back as code_back, name_len_back, set_back, body_back, body_len_back}

-- ---- lengths of bodies

-- a body has at most so many bytes, as its kind and its set say
pub body_len-most : (kind : FrameKind) (set : ParamSet) → IsSet set → body_len_of kind set ≤ 16000000
body_len-most Setup set is = at_most (λ set. setup_len set) 16000000 (refl, (refl, (refl, (refl, (refl, (refl, (refl, (refl, (refl, (refl, tt)))))))))) set is
body_len-most Query set is = at_most (λ set. query_len set) 16000000 (refl, (refl, (refl, (refl, (refl, (refl, (refl, (refl, (refl, (refl, tt)))))))))) set is
body_len-most Reply set is = at_most (λ set. reply_len set) 16000000 (refl, (refl, (refl, (refl, (refl, (refl, (refl, (refl, (refl, (refl, tt)))))))))) set is
body_len-most Refuse set is = omega arith
body_len-most State set is = at_most (λ set. state_len set) 16000000 (refl, (refl, (refl, (refl, (refl, (refl, (refl, (refl, (refl, (refl, tt)))))))))) set is
body_len-most Database set is = omega arith

-- its number fits the 8 bytes of a header
pub body_len_fits : (kind : FrameKind) (set : ParamSet) → IsSet set → body_len_of kind set < 256 ^ 8
body_len_fits kind set is =
    let large : 16000000 < 256 ^ 8 = lit< tt in
    omega (arith, body_len-most kind set is)

-- the kind of a kind's code
pub kind_back : (kind : FrameKind) → kind_of_code (code_of_kind kind) ≡ Some kind
kind_back Setup = refl
kind_back Query = refl
kind_back Reply = refl
kind_back Refuse = refl
kind_back State = refl
kind_back Database = refl

-- the length that a kind needs is not a wrong one
pub right_len : (kind : FrameKind) (set : ParamSet) → kind ≢ Database
    → wrong_length (code_of_kind kind) (body_len_of kind set) (needed_of (code_of_kind kind) set) ≡ false
right_len Setup set other = ap not (eq-eqb (setup_len set) (setup_len set) refl)
right_len Query set other = ap not (eq-eqb (query_len set) (query_len set) refl)
right_len Reply set other = ap not (eq-eqb (reply_len set) (reply_len set) refl)
right_len Refuse set other = refl
right_len State set other = ap not (eq-eqb (state_len set) (state_len set) refl)
right_len Database set other = absurd (other refl)

-- ---- the parts of the bytes

module _ (code : ℕ) (set : ParamSet) (len : ℕ) (body : List ℕ) (known : IsSet set) (fits : len < 256 ^ 8) where
  abbrev w : List ℕ
  w = header code set len ++ body

  -- the code of the kind
  pub code_in_front : kind_in w ≡ code
  code_in_front = code_back code set len body

  -- the set that the name names
  pub set_in_front : set_in w ≡ Some set
  set_in_front = set_back code set len body known

  -- the length of the body
  pub len_in_front : body_len_in w ≡ len
  len_in_front = body_len_back code set len body fits

  -- and that of the header
  pub header_len_is : header_len_in w ≡ length (header code set len)
  header_len_is = ap (λ (k : ℕ). 15 + k) (name_len_back code set len body) ∙ sym (length-header code set len)

  -- the body stands behind the header
  pub body_at : drop (header_len_in w) w ≡ body
  body_at = body_back code set len body

  -- and a part of it so far behind that
  pub body_from : (k : ℕ) → drop (header_len_in w + k) w ≡ drop k body
  body_from k = sym (drop-drop k (header_len_in w) w) ∙ ap (drop k) body_at

  -- how many bytes there are
  pub size_is : length w ≡ header_len_in w + length body
  size_is = length-append (header code set len) body ∙ ap (λ (k : ℕ). k + length body) (sym header_len_is)

  -- ---- the checks

  module _ (kinds : ℕ) (accepted : accepts kinds code ≡ true) (right : wrong_length code len (needed_of code set) ≡ false) where
    right_body : wrong_length (kind_in w) (body_len_in w) (needed_in (set_in w) (kind_in w)) ≡ false
    right_body = rw (set_in_front, code_in_front, len_in_front) right

    parts : w ≡ 83 ∷ 80 ∷ 73 ∷ 82 ∷ 1 ∷ code ∷ length (name_of set) ∷ (name_of set ++ (number 8 len ++ body))
    parts = header_parts code set len body

    header_passes : AllPass (header_checks kinds w) (length w)
    unfolding header_checks
    header_passes =
        let m0 : not (nat_eq (get_or w 0 0) 83) ≡ false = ap (λ (l : List ℕ). not (nat_eq (get_or l 0 0) 83)) parts in
        let m1 : not (nat_eq (get_or w 1 0) 80) ≡ false = ap (λ (l : List ℕ). not (nat_eq (get_or l 1 0) 80)) parts in
        let m2 : not (nat_eq (get_or w 2 0) 73) ≡ false = ap (λ (l : List ℕ). not (nat_eq (get_or l 2 0) 73)) parts in
        let m3 : not (nat_eq (get_or w 3 0) 82) ≡ false = ap (λ (l : List ℕ). not (nat_eq (get_or l 3 0) 82)) parts in
        let version : not (nat_eq (get_or w 4 0) 1) ≡ false = ap (λ (l : List ℕ). not (nat_eq (get_or l 4 0) 1)) parts in
        let kind : not (accepts kinds (get_or w 5 0)) ≡ false = ap (λ (k : ℕ). not (accepts kinds k)) code_in_front ∙ ap not accepted in
        let named : is_none (set_in w) ≡ false = ap is_none set_in_front in
        let long : 14 + get_or w 6 0 < length w = omega (arith, size_is) in
        let from_name : AllPass (name_checks w) (length w) = (omega arith, (named, (omega arith, (right_body, tt)))) in
        (omega arith, (m0, (omega arith, (m1, (omega arith, (m2, (omega arith, (m3, (omega arith, (version, (omega arith, (kind, from_name))))))))))))

-- ---- the header of a kind and a set, and what has come behind it

module _ (kind : FrameKind) (set : ParamSet) where
  -- how long the header is
  pub length-header_of : length (header_of kind set) ≡ 15 + length (name_of set)
  length-header_of = length-header (code_of_kind kind) set (body_len_of kind set)

  module _ (body : List ℕ) where
    -- the header says how long it is
    pub header_len_found : header_len_in (header_of kind set ++ body) ≡ length (header_of kind set)
    header_len_found = ap (λ (l : List ℕ). 15 + get_or l 6 0) (header_parts (code_of_kind kind) set (body_len_of kind set) body) ∙ sym length-header_of

    -- the body begins behind it
    pub behind_header : drop (length (header_of kind set)) (header_of kind set ++ body) ≡ body
    behind_header = drop_at (header_of kind set) body (length (header_of kind set)) refl

    -- a part of the body begins so far behind that
    pub further_behind : (k : ℕ) → drop (length (header_of kind set) + k) (header_of kind set ++ body) ≡ drop k body
    further_behind k = sym (drop-drop k (length (header_of kind set)) (header_of kind set ++ body)) ∙ ap (drop k) behind_header

    -- and a byte of it stands there
    pub byte_behind : (k : ℕ) → get_or (header_of kind set ++ body) (length (header_of kind set) + k) 0 ≡ get_or body k 0
    byte_behind k = get_or-append-add (header_of kind set) body k 0

-- ---- what stands at their front

module _ (kinds : ℕ) (kind : FrameKind) (set : ParamSet) (len : ℕ) (body : List ℕ) (known : IsSet set) (fits : len < 256 ^ 8)
    (accepted : accepts kinds (code_of_kind kind) ≡ true) (right : wrong_length (code_of_kind kind) len (needed_of (code_of_kind kind) set) ≡ false) where
  abbrev bytes : List ℕ
  bytes = header (code_of_kind kind) set len ++ body

  checks_are : checks_by (kind_of_code (kind_in bytes)) (set_in bytes) bytes ≡ body_checks kind set bytes
  checks_are =
      ap (λ (k : ℕ). checks_by (kind_of_code k) (set_in bytes) bytes) (code_in_front (code_of_kind kind) set len body known fits)
      ∙ ap (λ (k : Option FrameKind). checks_by k (set_in bytes) bytes) (kind_back kind)
      ∙ ap (λ (s : Option ParamSet). checks_by (Some kind) s bytes) (set_in_front (code_of_kind kind) set len body known fits)

  outcome_is : checked (frame_checks kinds bytes) (length bytes) ≡ checked (body_checks kind set bytes) (length bytes)
  unfolding frame_checks
  outcome_is =
      let more : List Check = checks_by (kind_of_code (kind_in bytes)) (set_in bytes) bytes in
      checked-append (header_checks kinds bytes) more (length bytes)
      ∙ ap (λ (o : Outcome). and_then o (checked more (length bytes)))
      (passed_all (header_checks kinds bytes) (length bytes) (header_passes (code_of_kind kind) set len body known fits kinds accepted right))
      ∙ ap (λ (checks : List Check). checked checks (length bytes)) checks_are

  -- What stands at the front of the bytes, by what the checks of the body find.
  pub front_at : front kinds bytes
      ≡ front_by (checked (body_checks kind set bytes) (length bytes)) (length (header (code_of_kind kind) set len) + len) (length bytes)
  unfolding front
  front_at =
      ap (λ (o : Outcome). front_by o (header_len_in bytes + body_len_in bytes) (length bytes)) outcome_is
      ∙ ap (λ (k : ℕ). front_by (checked (body_checks kind set bytes) (length bytes)) (k + body_len_in bytes) (length bytes))
      (header_len_is (code_of_kind kind) set len body known fits)
      ∙ ap (λ (k : ℕ). front_by (checked (body_checks kind set bytes) (length bytes)) (length (header (code_of_kind kind) set len) + k) (length bytes))
      (len_in_front (code_of_kind kind) set len body known fits)
