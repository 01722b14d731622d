-- A frame is whole by its last byte: all its checks are decided within it.
use Rattle.std.proofs.Common.{◌≡◌, ℕ, zero, suc, ◌+◌, ◌*◌, ◌/◌, ◌<◌, ◌≤◌, ◌⊎◌, inl, inr, Bool, true, false, not, List, [], ◌∷◌, ◌++◌, length, Option, Some, None, refl, ap, sym, subst, ◌∙◌, arith, length-append, eqb-true}
use Rattle.std.specs.Prelude.{nat_eq, nat_lt, if◌then◌else◌}
use Rattle.std.proofs.lemmas.Bool.{cases_lt, lt-ltb, le-ltb, ltb-false}
use Rattle.spiral_sets.specs.declared.param_set.ParamSet.{ParamSet}
use Rattle.spiral_sets.specs.Counts.{setup_len, query_len}
use Rattle.frame_headers.specs.declared.frame_error.FrameError.{FrameError}
use Rattle.frame_headers.specs.declared.kind.FrameKind.{FrameKind}
use Rattle.frame_headers.specs.declared.kind.FrameKind.TheVariants.{Setup, Query, Reply, Refuse, State, Database}
use Rattle.frame_headers.specs.Kinds.{kind_of_code, body_len_of}
use Rattle.frame_headers.specs.Checks.{Check, Outcome, passes, refuses, ends_before, checked, kind_in, name_len_in, set_in, body_len_in, header_len_in, header_checks, wrong_length, needed_in, needed_by}
use Rattle.frame_headers.proofs.Outcomes.{AllBefore}
use Rattle.spiral_frames.specs.FrameChecks.{more, whole, front_by, front, residue_checks, secret_checks, reply_checks, state_checks, database_checks, body_checks, checks_by, frame_checks}
use Rattle.frame_streams.proofs.Staying.{SameHeader, byte_stays, same_header, frame_stays}
use Rattle.frame_streams.proofs.Agreeing.{not_false, more_or_whole, frame_header, front_is, whole_front, whole_within}

-- ---- the body has the bytes that its checks look at

-- where a body length isn't wrong, there are as many as are needed
enough : (database : Bool) (body needed : ℕ) → (if database then nat_lt body needed else not (nat_eq body needed)) ≡ false → needed ≤ body
enough true body needed h = ltb-false body needed h
enough false body needed h = let same : body ≡ needed = eqb-true body needed (not_false (nat_eq body needed) h) in omega arith

add_left : (a b c : ℕ) → b ≤ c → a + b ≤ a + c
add_left a b c h = omega arith

-- how many bytes the kind and the set that are named need
abbrev pub needed_known : Option FrameKind → Option ParamSet → ℕ
needed_known known (Some set) = needed_by known set
needed_known known None = 0

pub needed_is : (code : ℕ) (named : Option ParamSet) → needed_in named code ≡ needed_known (kind_of_code code) named
needed_is code (Some set) = refl
needed_is code None = refl

-- ---- where the checks are decided

not_ending : (fails : Bool) (error : FrameError) (rest : Outcome) → (if fails then refuses error else rest) ≡ ends_before → rest ≡ ends_before
not_ending true error rest h = absurd (cc)
not_ending false error rest h = h

-- What ends before its checks is shorter than each size before which all are decided.
pub ends_short : (checks : List Check) (size limit : ℕ) → AllBefore checks limit → checked checks size ≡ ends_before → size < limit
unfolding checked
ends_short [] size limit before h = absurd (cc)
ends_short (check ∷ checks) size limit before h =
    elim (cases_lt check.decided_at size) [
      | inl low ↦
          let found = rw (lt-ltb check.decided_at size low) at h in
          ends_short checks size limit before.1 (not_ending check.fails check.refusal (checked checks size) found)
      | inr high ↦ omega (arith, before.0)
    ]

module _ (x : List ℕ) where
  residues_before : (count place size : ℕ) → place + 7 * count ≤ size → AllBefore (residue_checks x place count) size
  unfolding residue_checks
  residues_before zero place size h = tt
  residues_before (suc count) place size h = (omega arith, residues_before count (place + 7) size (omega arith))

  -- the residues of a body of so many bytes
  run_before : (len start size : ℕ) → start + len ≤ size → AllBefore (residue_checks x start (len / 7)) size
  run_before len start size h = residues_before (len / 7) start size (omega arith)

  secret_before : (count place size : ℕ) → place + count ≤ size → AllBefore (secret_checks x place count) size
  unfolding secret_checks
  secret_before zero place size h = tt
  secret_before (suc count) place size h = (omega arith, secret_before count (place + 1) size (omega arith))

  reply_before : (set : ParamSet) (size : ℕ) → header_len_in x + 16 ≤ size → AllBefore (reply_checks set x) size
  unfolding reply_checks
  reply_before set size h = (omega arith, (omega arith, tt))

  state_before : (set : ParamSet) (size : ℕ) → header_len_in x + 8 + set.n * set.degree ≤ size → AllBefore (state_checks set x) size
  unfolding state_checks
  state_before set size h = (omega arith, secret_before (set.n * set.degree) (header_len_in x + 8) size h)

  database_before : (set : ParamSet) (size : ℕ) → header_len_in x + 16 ≤ size → AllBefore (database_checks set x) size
  unfolding database_checks
  database_before set size h = (omega arith, (omega arith, (omega arith, tt)))

  body_before : (kind : FrameKind) (set : ParamSet) (size : ℕ) → header_len_in x + body_len_of kind set ≤ size → AllBefore (body_checks kind set x) size
  body_before Setup set size h = run_before (setup_len set) (header_len_in x) size h
  body_before Query set size h = run_before (query_len set) (header_len_in x) size h
  body_before Reply set size h = reply_before set size (omega arith)
  body_before Refuse set size h = tt
  body_before State set size h = state_before set size (omega arith)
  body_before Database set size h = database_before set size h

  behind_before : (known : Option FrameKind) (named : Option ParamSet) (size : ℕ) → header_len_in x + needed_known known named ≤ size
      → AllBefore (checks_by known named x) size
  behind_before (Some kind) (Some set) size h = body_before kind set size h
  behind_before (Some kind) None size h = tt
  behind_before None named size h = tt

  header_before : (kinds : ℕ) (rest : List Check) (size : ℕ) → header_len_in x ≤ size → AllBefore rest size → AllBefore (header_checks kinds x ++ rest) size
  unfolding header_checks
  header_before kinds rest size h behind =
      (omega arith, (omega arith, (omega arith, (omega arith, (omega arith, (omega arith, (omega arith, (omega arith, behind))))))))

  abbrev rest : List Check
  rest = checks_by (kind_of_code (kind_in x)) (set_in x) x

  needs : wrong_length (kind_in x) (body_len_in x) (needed_in (set_in x) (kind_in x)) ≡ false
      → header_len_in x + needed_known (kind_of_code (kind_in x)) (set_in x) ≤ header_len_in x + body_len_in x
  needs right =
      let le : needed_in (set_in x) (kind_in x) ≤ body_len_in x = enough (nat_eq (kind_in x) 6) (body_len_in x) (needed_in (set_in x) (kind_in x)) right in
      let le2 : needed_known (kind_of_code (kind_in x)) (set_in x) ≤ body_len_in x =
      subst (λ (k : ℕ). k ≤ body_len_in x) (needed_is (kind_in x) (set_in x)) le in
      add_left (header_len_in x) (needed_known (kind_of_code (kind_in x)) (set_in x)) (body_len_in x) le2

  -- All checks of a frame are decided within it, where the body length suits.
  pub frame_before : (kinds : ℕ) → wrong_length (kind_in x) (body_len_in x) (needed_in (set_in x) (kind_in x)) ≡ false
      → AllBefore (frame_checks kinds x) (header_len_in x + body_len_in x)
  unfolding frame_checks
  frame_before kinds right =
      header_before kinds rest (header_len_in x + body_len_in x) (omega arith)
      (behind_before (kind_of_code (kind_in x)) (set_in x) (header_len_in x + body_len_in x) (needs right))

-- ---- a frame is whole by its last byte

outcome_stays : (here there : Outcome) → (here ≡ ends_before → ⊥) → (here ≡ ends_before) ⊎ (here ≡ there) → here ≡ there
outcome_stays here there none (inl ends) = absurd (none ends)
outcome_stays here there none (inr same) = same

same_right : (code code' body body' : ℕ) (named named' : Option ParamSet) → code ≡ code' → body ≡ body' → named ≡ named'
    → wrong_length code' body' (needed_in named' code') ≡ false → wrong_length code body (needed_in named code) ≡ false
same_right code code' body body' named named' ec eb en h =
    ap (λ (c : ℕ). wrong_length c body (needed_in named c)) ec ∙ ap (λ (b : ℕ). wrong_length code' b (needed_in named code')) eb
    ∙ ap (λ (n : Option ParamSet). wrong_length code' body' (needed_in n code')) en ∙ h

whole_by : (len size : ℕ) → len ≤ size → front_by passes len size ≡ whole len
whole_by len size le = rw (le-ltb size len le) refl

-- A whole frame at the front of more bytes, where it is within the first: it stands at the front of these.
pub front_at : (kinds : ℕ) (y z : List ℕ) (len : ℕ) → front kinds (y ++ z) ≡ whole len → len ≤ length y → front kinds y ≡ whole len
front_at kinds y z len h within =
    let x : List ℕ = y ++ z in
    let all = whole_front (checked (frame_checks kinds x) (length x)) (header_len_in x + body_len_in x) (length x) len (sym (front_is kinds x) ∙ h) in
    let header = frame_header kinds x (length x) all.passed in
    let name : name_len_in y ≡ name_len_in x = byte_stays y z 6 (omega (arith, all.len_is)) in
    let same : SameHeader y z = same_header y z (omega (arith, all.len_is)) in
    let right = same_right (kind_in y) (kind_in x) (body_len_in y) (body_len_in x) (set_in y) (set_in x) same.kind same.body same.set header.right_length in
    let size : header_len_in y + body_len_in y ≡ len = omega (arith, all.len_is, same.name_len, same.body) in
    let none : checked (frame_checks kinds y) (length y) ≡ ends_before → ⊥ =
    λ ends.
    let short : length y < header_len_in y + body_len_in y =
    ends_short (frame_checks kinds y) (length y) (header_len_in y + body_len_in y) (frame_before y kinds right) ends in
    omega arith in
    let found : checked (frame_checks kinds y) (length y) ≡ passes =
    outcome_stays (checked (frame_checks kinds y) (length y)) (checked (frame_checks kinds x) (length x)) none (frame_stays y z kinds).is ∙ all.passed in
    front_is kinds y
    ∙ ap (λ (o : Outcome). front_by o (header_len_in y + body_len_in y) (length y)) found
    ∙ ap (λ (k : ℕ). front_by passes k (length y)) size
    ∙ whole_by len (length y) within

-- A frame that was not whole before its last byte is whole by it.
pub whole_by_last : (kinds : ℕ) (y : List ℕ) (byte len : ℕ) → front kinds y ≡ more → front kinds (y ++ byte ∷ []) ≡ whole len
    → len ≡ length (y ++ byte ∷ [])
whole_by_last kinds y byte len wants found =
    let size : length (y ++ byte ∷ []) ≡ length y + 1 = length-append y (byte ∷ []) in
    let le : len ≤ length (y ++ byte ∷ []) = whole_within kinds (y ++ byte ∷ []) len found in
    elim (cases_lt (length y) len) [
      | inl longer ↦ omega arith
      | inr shorter ↦ absurd (more_or_whole len (sym wants ∙ front_at kinds y (byte ∷ []) len found shorter))
    ]
