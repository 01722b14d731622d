-- What the checks of a frame find of some bytes they find of more bytes too, unless the bytes end before the checks.
use Rattle.std.proofs.Common.{◌≡◌, ℕ, zero, suc, ◌+◌, ◌*◌, ◌/◌, ◌<◌, ◌≤◌, ◌⊎◌, inl, inr, Bool, true, false, not, List, [], ◌∷◌, ◌++◌, length, get_or, take, drop, Option, Some, None, refl, ap, sym, subst, ◌∙◌, arith, length-append}
use Rattle.std.specs.Prelude.{nat_eq, if◌then◌else◌}
use Rattle.std.proofs.lemmas.Bool.{cases_lt, lt-ltb}
use Rattle.std.proofs.lemmas.List.{get_or_append_left, drop-append-le, take-append-le, length-drop}
use Rattle.negacyclic.specs.Digits.{number_of}
use Rattle.spiral_sets.specs.declared.param_set.ParamSet.{ParamSet}
use Rattle.spiral_sets.specs.Sets.{set_of}
use Rattle.spiral_sets.specs.Counts.{setup_len, query_len}
use Rattle.frame_headers.specs.declared.frame_error.FrameError.{FrameError}
use Rattle.frame_headers.specs.declared.frame_error.FrameError.TheVariants.{Ragged}
use Rattle.frame_headers.specs.declared.kind.FrameKind.{FrameKind}
use Rattle.frame_headers.specs.declared.kind.FrameKind.TheVariants.{Setup, Query, Reply, Refuse, State, Database}
use Rattle.frame_headers.specs.Kinds.{kind_of_code}
use Rattle.frame_headers.specs.Checks.{Check, Outcome, refuses, ends_before, checked, number_at, kind_in, name_len_in, name_in, set_in, body_len_place, body_len_in, header_len_in, magic_check, version_check, kind_check, name_check, body_check, header_checks}
use Rattle.frame_headers.proofs.HeaderReading.{checked-ends, checked-none}
use Rattle.spiral_frames.specs.FrameChecks.{residue_at, residue_checks, count_check, length_check, reply_checks, index_check, secret_checks, state_checks, database_checks, body_checks, checks_by, frame_checks}

-- ---- one check after another

-- With few bytes the checks reach the input's end, or they find what those others find with many.
pub record Stays (checks others : List Check) (few many : ℕ) : Type 0 where
  pub is : (checked checks few ≡ ends_before) ⊎ (checked checks few ≡ checked others many)

tested : (fails : Bool) (error : FrameError) (here there : Outcome) → (here ≡ ends_before) ⊎ (here ≡ there)
    → ((if fails then refuses error else here) ≡ ends_before) ⊎ ((if fails then refuses error else here) ≡ (if fails then refuses error else there))
tested true error here there h = inr refl
tested false error here there h = h

module _ (few many : ℕ) (le : few ≤ many) where
  same_first : (check : Check) (checks others : List Check) → check.decided_at < few → Stays checks others few many
      → Stays (check ∷ checks) (check ∷ others) few many
  unfolding checked
  same_first check checks others low rest =
      let later : check.decided_at < many = omega arith in
      record {
        is =
            rw (lt-ltb check.decided_at few low, lt-ltb check.decided_at many later)
            (tested check.fails check.refusal (checked checks few) (checked others many) rest.is);
      }

  -- one check more, which is the same one where it is decided
  pub stays_more : {check other : Check} {checks others : List Check} → (check.decided_at < few → (check ≡ other) × Stays checks others few many)
      → Stays (check ∷ checks) (other ∷ others) few many
  stays_more {check = check} {other = other} {checks = checks} {others = others} h =
      elim (cases_lt check.decided_at few) [
        | inl low ↦
            let now = h low in
            subst (λ (c : Check). Stays (check ∷ checks) (c ∷ others) few many) now.0 (same_first check checks others low now.1)
        | inr high ↦ record { is = inl (checked-ends check checks few high) }
      ]

pub stays_none : (few many : ℕ) → Stays [] [] few many
stays_none few many = record { is = inr (checked-none few ∙ sym (checked-none many)) }

-- ---- the bytes that checks look at

set_same : (x y : List ℕ) → name_in x ≡ name_in y → set_in x ≡ set_in y
unfolding set_in
set_same x y e = ap set_of e

-- The header is within the bytes y, and is the one of the bytes y ++ z.
pub record SameHeader (y z : List ℕ) : Type 0 where
  pub within : header_len_in y ≤ length y
  pub name_len : name_len_in y ≡ name_len_in (y ++ z)
  pub kind : kind_in y ≡ kind_in (y ++ z)
  pub set : set_in y ≡ set_in (y ++ z)
  pub body : body_len_in y ≡ body_len_in (y ++ z)

-- ---- the checks of the bodies, from a place on

abbrev reply_from : ParamSet → ℕ → List ℕ → List Check
reply_from set start bytes = count_check set bytes start ∷ length_check set bytes start ∷ []

abbrev state_from : ParamSet → ℕ → ℕ → List ℕ → List Check
state_from set start count bytes = index_check set bytes start ∷ secret_checks bytes (start + 8) count

-- the body length of a Database is that of its numbers
abbrev ragged_check : ℕ → List ℕ → Check
ragged_check start bytes = record {
  decided_at = start + 15;
  fails = not (nat_eq (body_len_in bytes) (16 + number_at bytes start * number_at bytes (start + 8)));
  refusal = Ragged (body_len_place bytes) (body_len_in bytes);
}

abbrev database_from : ParamSet → ℕ → List ℕ → List Check
database_from set start bytes = count_check set bytes start ∷ length_check set bytes start ∷ ragged_check start bytes ∷ []

-- the checks behind the header
abbrev pub behind_header : List ℕ → List Check
behind_header bytes = checks_by (kind_of_code (kind_in bytes)) (set_in bytes) bytes

-- ---- what stays

module _ (y z : List ℕ) where
  pub byte_stays : (place : ℕ) → place < length y → get_or y place 0 ≡ get_or (y ++ z) place 0
  byte_stays place low = sym (get_or_append_left y z 0 place low)

  pub piece_stays : (place count : ℕ) → place + count ≤ length y → take count (drop place y) ≡ take count (drop place (y ++ z))
  piece_stays place count within =
      let le : place ≤ length y = omega arith in
      let room : count ≤ length (drop place y) = omega (arith, length-drop place y) in
      sym (ap (take count) (drop-append-le place y z le) ∙ take-append-le count (drop place y) z room)

  number_stays : (place : ℕ) → place + 8 ≤ length y → number_at y place ≡ number_at (y ++ z) place
  number_stays place within = ap (number_of 256) (piece_stays place 8 within)

  residue_stays : (place : ℕ) → place + 7 ≤ length y → residue_at y place ≡ residue_at (y ++ z) place
  residue_stays place within = ap (number_of 256) (piece_stays place 7 within)

  -- the name, where it is within
  name_stays : 6 + name_len_in y < length y → set_in y ≡ set_in (y ++ z)
  name_stays low =
      let same : name_len_in y ≡ name_len_in (y ++ z) = byte_stays 6 (omega arith) in
      set_same y (y ++ z) (piece_stays 7 (name_len_in y) (omega arith) ∙ ap (λ (k : ℕ). take k (drop 7 (y ++ z))) same)

  -- A header that is within is that of more bytes too.
  pub same_header : 14 + name_len_in y < length y → SameHeader y z
  same_header low =
      let same : name_len_in y ≡ name_len_in (y ++ z) = byte_stays 6 (omega arith) in
      record {
        within = omega arith;
        name_len = same;
        kind = byte_stays 5 (omega arith);
        set = name_stays (omega arith);
        body = number_stays (7 + name_len_in y) (omega arith) ∙ ap (λ (k : ℕ). number_at (y ++ z) (7 + k)) same;
      }

  abbrev many : ℕ
  many = length (y ++ z)

  longer : length y ≤ many
  longer = omega (arith, length-append y z)

  -- ---- the checks of the header

  magic_same : (place byte : ℕ) → place < length y → magic_check y place byte ≡ magic_check (y ++ z) place byte
  magic_same place byte low = rw (byte_stays place low) refl

  version_same : 4 < length y → version_check y ≡ version_check (y ++ z)
  version_same low = rw (byte_stays 4 low) refl

  kind_same : (kinds : ℕ) → 5 < length y → kind_check kinds y ≡ kind_check kinds (y ++ z)
  kind_same kinds low = rw (byte_stays 5 low) refl

  name_same : 6 + name_len_in y < length y → name_check y ≡ name_check (y ++ z)
  name_same low = rw (name_stays low, byte_stays 6 (omega arith)) refl

  body_same : SameHeader y z → body_check y ≡ body_check (y ++ z)
  body_same same = rw (same.body, same.set, same.kind, same.name_len) refl

  -- The checks of the header, and others behind them, which may rest on its being the same.
  pub header_stays : (kinds : ℕ) (rest others : List Check) → (SameHeader y z → Stays rest others (length y) many)
      → Stays (header_checks kinds y ++ rest) (header_checks kinds (y ++ z) ++ others) (length y) many
  unfolding header_checks
  header_stays kinds rest others behind =
      let all = longer in
      stays_more (length y) many all (λ h0. (
        magic_same 0 83 h0,
        stays_more (length y) many all (λ h1. (
          magic_same 1 80 h1,
          stays_more (length y) many all (λ h2. (
            magic_same 2 73 h2,
            stays_more (length y) many all (λ h3. (
              magic_same 3 82 h3,
              stays_more (length y) many all (λ h4. (
                version_same h4,
                stays_more (length y) many all (λ h5. (
                  kind_same kinds h5,
                  stays_more (length y) many all (λ h6. (
                    name_same h6,
                    stays_more (length y) many all (λ h7. (body_same (same_header h7), behind (same_header h7))),
                  )),
                )),
              )),
            )),
          )),
        )),
      ))

  -- ---- the checks of the bodies, each from a place on

  residues_stay : (count place : ℕ) → Stays (residue_checks y place count) (residue_checks (y ++ z) place count) (length y) many
  unfolding residue_checks
  residues_stay zero place = stays_none (length y) many
  residues_stay (suc count) place =
      stays_more (length y) many longer (λ low. (rw (residue_stays place (omega arith)) refl, residues_stay count (place + 7)))

  secret_stays : (count place : ℕ) → Stays (secret_checks y place count) (secret_checks (y ++ z) place count) (length y) many
  unfolding secret_checks
  secret_stays zero place = stays_none (length y) many
  secret_stays (suc count) place =
      stays_more (length y) many longer (λ low. (rw (byte_stays place low) refl, secret_stays count (place + 1)))

  module _ (set : ParamSet) (start : ℕ) where
    count_same : start + 7 < length y → count_check set y start ≡ count_check set (y ++ z) start
    count_same low = rw (number_stays start (omega arith)) refl

    length_same : start + 15 < length y → length_check set y start ≡ length_check set (y ++ z) start
    length_same low = rw (number_stays (start + 8) (omega arith)) refl

    index_same : start + 7 < length y → index_check set y start ≡ index_check set (y ++ z) start
    index_same low = rw (number_stays start (omega arith)) refl

    reply_stays : Stays (reply_from set start y) (reply_from set start (y ++ z)) (length y) many
    reply_stays =
        stays_more (length y) many longer (λ low. (
          count_same low,
          stays_more (length y) many longer (λ next. (length_same next, stays_none (length y) many)),
        ))

    state_stays : (count : ℕ) → Stays (state_from set start count y) (state_from set start count (y ++ z)) (length y) many
    state_stays count = stays_more (length y) many longer (λ low. (index_same low, secret_stays count (start + 8)))

  module _ (same : SameHeader y z) where
    ragged_same : (start : ℕ) → start + 15 < length y → ragged_check start y ≡ ragged_check start (y ++ z)
    ragged_same start low = rw (same.body, number_stays start (omega arith), number_stays (start + 8) (omega arith), same.name_len) refl

    database_stays : (set : ParamSet) (start : ℕ) → Stays (database_from set start y) (database_from set start (y ++ z)) (length y) many
    database_stays set start =
        stays_more (length y) many longer (λ low. (
          count_same set start low,
          stays_more (length y) many longer (λ next. (
            length_same set start next,
            stays_more (length y) many longer (λ last. (ragged_same start last, stays_none (length y) many)),
          )),
        ))

    body_stays : (kind : FrameKind) (set : ParamSet) → Stays (body_checks kind set y) (body_checks kind set (y ++ z)) (length y) many
    unfolding reply_checks state_checks database_checks
    body_stays Setup set =
        subst (λ (k : ℕ). Stays (residue_checks y (header_len_in y) (setup_len set / 7)) (residue_checks (y ++ z) (15 + k) (setup_len set / 7)) (length y) many)
        same.name_len (residues_stay (setup_len set / 7) (header_len_in y))
    body_stays Query set =
        subst (λ (k : ℕ). Stays (residue_checks y (header_len_in y) (query_len set / 7)) (residue_checks (y ++ z) (15 + k) (query_len set / 7)) (length y) many)
        same.name_len (residues_stay (query_len set / 7) (header_len_in y))
    body_stays Reply set =
        subst (λ (k : ℕ). Stays (reply_checks set y) (reply_from set (15 + k) (y ++ z)) (length y) many)
        same.name_len (reply_stays set (header_len_in y))
    body_stays Refuse set = stays_none (length y) many
    body_stays State set =
        subst (λ (k : ℕ). Stays (state_checks set y) (state_from set (15 + k) (set.n * set.degree) (y ++ z)) (length y) many)
        same.name_len (state_stays set (header_len_in y) (set.n * set.degree))
    body_stays Database set =
        subst (λ (k : ℕ).
        Stays (database_checks set y) (database_from set (15 + k) (y ++ z)) (length y) many)
        same.name_len (database_stays set (header_len_in y))

    behind_stays : (known : Option FrameKind) (named : Option ParamSet) → Stays (checks_by known named y) (checks_by known named (y ++ z)) (length y) many
    behind_stays (Some kind) (Some set) = body_stays kind set
    behind_stays (Some kind) None = stays_none (length y) many
    behind_stays None named = stays_none (length y) many

    -- the checks behind a header that is the same
    checks_stay : Stays (behind_header y) (behind_header (y ++ z)) (length y) many
    checks_stay =
        let goal : ℕ → Option ParamSet → Type 0 = λ code named. Stays (checks_by (kind_of_code code) named y) (behind_header (y ++ z)) (length y) many in
        subst (λ (code : ℕ). goal code (set_in y)) (sym same.kind)
        (subst (goal (kind_in (y ++ z))) (sym same.set) (behind_stays (kind_of_code (kind_in (y ++ z))) (set_in (y ++ z))))

  -- What the checks of a frame find of the first bytes they find of all.
  pub frame_stays : (kinds : ℕ) → Stays (frame_checks kinds y) (frame_checks kinds (y ++ z)) (length y) many
  unfolding frame_checks
  frame_stays kinds =
      header_stays kinds (behind_header y) (behind_header (y ++ z)) checks_stay
