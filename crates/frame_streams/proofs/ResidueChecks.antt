-- What the checks of residues find: of bodies of Setup and Query frames that have come in part, and of whole ones.
use Rattle.std.proofs.Common.{◌≡◌, ℕ, zero, suc, ◌+◌, ◌*◌, ◌/◌, ◌^◌, ◌<◌, ◌≤◌, not, List, [], ◌∷◌, ◌++◌, length, take, drop, All, refl, sym, ◌∙◌, ap, arith, append_assoc, length-append, lt-ltb}
use Rattle.std.specs.Prelude.{nat_lt}
use Rattle.std.specs.List.{flat_map}
use Rattle.std.proofs.lemmas.Bool.{le-ltb}
use Rattle.std.proofs.lemmas.List.{drop-drop}
use Rattle.std.proofs.lemmas.List.Elements.{All-head, All-tail}
use Rattle.negacyclic.specs.Digits.{number_of}
use Rattle.negacyclic.proofs.Digits.{length-digits}
use Rattle.spiral_sets.specs.declared.param_set.ParamSet.{ParamSet}
use Rattle.spiral_sets.specs.Sets.{IsSet, q}
use Rattle.frame_headers.specs.declared.frame_error.FrameError.{FrameError}
use Rattle.frame_headers.specs.declared.frame_error.FrameError.TheVariants.{Residue}
use Rattle.frame_headers.specs.declared.kind.FrameKind.{FrameKind}
use Rattle.frame_headers.specs.declared.kind.FrameKind.TheVariants.{Setup, Query, Reply, Refuse, State, Database}
use Rattle.frame_headers.specs.Kinds.{code_of_kind, body_len_of}
use Rattle.frame_headers.specs.Headers.{number}
use Rattle.frame_headers.specs.Checks.{Check, passes, refuses, ends_before, checked, header_len_in}
use Rattle.frame_headers.proofs.HeaderLaws.{number_at_front, behind_number}
use Rattle.frame_headers.proofs.HeaderReading.{checked-none, checked-ends, checked-fails, checked-passes}
use Rattle.spiral_frames.proofs.SameKeys.{residue_fits}
use Rattle.spiral_frames.specs.FrameChecks.{residue_at, residue_checks}
use Rattle.frame_streams.specs.Heads.{header_of, found, NotRefused}
use Rattle.frame_streams.proofs.BehindHeaders.{body_len_fits, body_at, size_is, header_len_is}

-- ---- one residue

-- its check
abbrev residue_check : List ℕ → ℕ → Check
residue_check bytes place =
    record { decided_at = place + 6; fails = not (nat_lt (residue_at bytes place) q); refusal = Residue place (residue_at bytes place) q }

checks_are : (bytes : List ℕ) (place count : ℕ) → residue_checks bytes place (suc count) ≡ residue_check bytes place ∷ residue_checks bytes (place + 7) count
unfolding residue_checks
checks_are bytes place count = refl

no_checks : (bytes : List ℕ) (place size : ℕ) → checked (residue_checks bytes place zero) size ≡ passes
unfolding residue_checks
no_checks bytes place size = checked-none size

module _ (bytes : List ℕ) (place count size : ℕ) where
  -- the residue has not come whole
  residue_ends : size ≤ place + 6 → checked (residue_checks bytes place (suc count)) size ≡ ends_before
  residue_ends short =
      ap (λ (checks : List Check). checked checks size) (checks_are bytes place count)
      ∙ checked-ends (residue_check bytes place) (residue_checks bytes (place + 7) count) size short

  residue_fails : place + 6 < size → q ≤ residue_at bytes place
      → checked (residue_checks bytes place (suc count)) size ≡ refuses (Residue place (residue_at bytes place) q)
  residue_fails there large =
      ap (λ (checks : List Check). checked checks size) (checks_are bytes place count)
      ∙ checked-fails (residue_check bytes place) (residue_checks bytes (place + 7) count) size there (ap not (le-ltb (residue_at bytes place) q large))

  -- one that stands there passes
  module _ (x : ℕ) (xs more : List ℕ) (at : drop place bytes ≡ flat_map (number 7) (x ∷ xs) ++ more) (below : x < q) where
    apart : drop place bytes ≡ number 7 x ++ (flat_map (number 7) xs ++ more)
    apart = at ∙ append_assoc (number 7 x) (flat_map (number 7) xs) more

    residue_is : residue_at bytes place ≡ x
    residue_is =
        let fits : x < 256 ^ 7 = omega (arith, residue_fits) in
        ap (λ (l : List ℕ). number_of 256 (take 7 l)) apart ∙ number_at_front 7 x (flat_map (number 7) xs ++ more) fits

    next_at : drop (place + 7) bytes ≡ flat_map (number 7) xs ++ more
    next_at = sym (drop-drop 7 place bytes) ∙ ap (drop 7) apart ∙ behind_number 7 x (flat_map (number 7) xs ++ more)

    residue_passes : place + 6 < size → checked (residue_checks bytes place (suc count)) size ≡ checked (residue_checks bytes (place + 7) count) size
    residue_passes there =
        ap (λ (checks : List Check). checked checks size) (checks_are bytes place count)
        ∙ checked-passes (residue_check bytes place) (residue_checks bytes (place + 7) count) size there
        (ap (λ (k : ℕ). not (nat_lt k q)) residue_is ∙ ap not (lt-ltb x q below))

-- ---- residues one behind another

-- how many bytes stand behind one residue more
size_more : (place size x : ℕ) (xs more : List ℕ) → size ≡ place + length (flat_map (number 7) (x ∷ xs) ++ more)
    → size ≡ place + 7 + length (flat_map (number 7) xs ++ more)
size_more place size x xs more e =
    let longer : length (flat_map (number 7) (x ∷ xs) ++ more) ≡ 7 + length (flat_map (number 7) xs ++ more) =
    ap length (append_assoc (number 7 x) (flat_map (number 7) xs) more)
    ∙ length-append (number 7 x) (flat_map (number 7) xs ++ more)
    ∙ ap (λ (k : ℕ). k + length (flat_map (number 7) xs ++ more)) (length-digits 256 7 x) in
    omega (arith, e, longer)

-- residues below q and too few bytes for one more: no check fails
clean_by : (count : ℕ) (bytes : List ℕ) (place size : ℕ) (xs few : List ℕ) → drop place bytes ≡ flat_map (number 7) xs ++ few
    → size ≡ place + length (flat_map (number 7) xs ++ few) → All (λ x. x < q) xs → length few < 7 → (error : FrameError)
    → checked (residue_checks bytes place count) size ≡ refuses error → ⊥
clean_by zero bytes place size xs few at is below short error h =
    let no : passes ≡ refuses error = sym (no_checks bytes place size) ∙ h in
    cc
clean_by (suc count) bytes place size [] few at is below short error h =
    let no : ends_before ≡ refuses error = sym (residue_ends bytes place count size (omega (arith, is))) ∙ h in
    cc
clean_by (suc count) bytes place size (x ∷ xs) few at is below short error h =
    let first : x < q = All-head (λ x. x < q) x xs below in
    let size_is : size ≡ place + 7 + length (flat_map (number 7) xs ++ few) = size_more place size x xs few is in
    clean_by count bytes (place + 7) size xs few (next_at bytes place count size x xs few at first) size_is (All-tail (λ x. x < q) x xs below) short error
    (sym (residue_passes bytes place count size x xs few at first (omega (arith, size_is))) ∙ h)

-- one that is not below q is refused at its place
refused_by : (count : ℕ) (bytes : List ℕ) (place size : ℕ) (xs more : List ℕ) → drop place bytes ≡ flat_map (number 7) xs ++ more
    → size ≡ place + length (flat_map (number 7) xs ++ more) → All (λ x. x < q) xs → 7 ≤ length more → q ≤ number_of 256 (take 7 more) → length xs < count
    → checked (residue_checks bytes place count) size ≡ refuses (Residue (place + 7 * length xs) (number_of 256 (take 7 more)) q)
refused_by zero bytes place size xs more at is below whole large within = absurd (omega arith)
refused_by (suc count) bytes place size [] more at is below whole large within =
    let read : residue_at bytes place ≡ number_of 256 (take 7 more) = ap (λ (l : List ℕ). number_of 256 (take 7 l)) at in
    let start : place ≡ place + 7 * 0 = omega arith in
    residue_fails bytes place count size (omega (arith, is)) (omega (arith, read))
    ∙ ap (λ (value : ℕ). refuses (Residue place value q)) read
    ∙ ap (λ (k : ℕ). refuses (Residue k (number_of 256 (take 7 more)) q)) start
refused_by (suc count) bytes place size (x ∷ xs) more at is below whole large within =
    let first : x < q = All-head (λ x. x < q) x xs below in
    let size_is : size ≡ place + 7 + length (flat_map (number 7) xs ++ more) = size_more place size x xs more is in
    let further : place + 7 + 7 * length xs ≡ place + 7 * suc (length xs) = omega arith in
    residue_passes bytes place count size x xs more at first (omega (arith, size_is))
    ∙ refused_by count bytes (place + 7) size xs more (next_at bytes place count size x xs more at first) size_is (All-tail (λ x. x < q) x xs below) whole large
    (omega arith)
    ∙ ap (λ (k : ℕ). refuses (Residue k (number_of 256 (take 7 more)) q)) further

-- As many residues below q as are checked pass.
pub residues_pass : (count : ℕ) (bytes : List ℕ) (place size : ℕ) (xs more : List ℕ) → drop place bytes ≡ flat_map (number 7) xs ++ more
    → size ≡ place + length (flat_map (number 7) xs ++ more) → All (λ x. x < q) xs → length xs ≡ count
    → checked (residue_checks bytes place count) size ≡ passes
residues_pass zero bytes place size xs more at is below many = no_checks bytes place size
residues_pass (suc count) bytes place size [] more at is below many = absurd (omega arith)
residues_pass (suc count) bytes place size (x ∷ xs) more at is below many =
    let first : x < q = All-head (λ x. x < q) x xs below in
    let size_is : size ≡ place + 7 + length (flat_map (number 7) xs ++ more) = size_more place size x xs more is in
    residue_passes bytes place count size x xs more at first (omega (arith, size_is))
    ∙ residues_pass count bytes (place + 7) size xs more (next_at bytes place count size x xs more at first) size_is (All-tail (λ x. x < q) x xs below)
    (omega arith)

-- ---- behind a header

-- a kind whose body is residues of 7 bytes
pub data HasResidues : FrameKind → Type 0 where
  of_setup : HasResidues Setup
  of_query : HasResidues Query

-- what the checks of its body look at
abbrev frame_so_far : FrameKind → ParamSet → List ℕ → List ℕ
frame_so_far kind set body = header_of kind set ++ body

found_is : (kind : FrameKind) (set : ParamSet) (body : List ℕ) → HasResidues kind
    → found kind set body
    ≡ checked (residue_checks (frame_so_far kind set body) (header_len_in (frame_so_far kind set body)) (body_len_of kind set / 7))
    (length (frame_so_far kind set body))
found_is Setup set body of_setup = refl
found_is Query set body of_query = refl
found_is Reply set body has = elim has [ ]
found_is Refuse set body has = elim has [ ]
found_is State set body has = elim has [ ]
found_is Database set body has = elim has [ ]

-- Residues below q, and fewer than 7 bytes behind them, are not refused.
pub residues_clean : (kind : FrameKind) (set : ParamSet) (xs few : List ℕ) → HasResidues kind → IsSet set → All (λ x. x < q) xs → length few < 7
    → NotRefused kind set (flat_map (number 7) xs ++ few)
residues_clean kind set xs few has known below short error h =
    let body : List ℕ = flat_map (number 7) xs ++ few in
    let w : List ℕ = frame_so_far kind set body in
    let fits = body_len_fits kind set known in
    clean_by (body_len_of kind set / 7) w (header_len_in w) (length w) xs few (body_at (code_of_kind kind) set (body_len_of kind set) body known fits)
    (size_is (code_of_kind kind) set (body_len_of kind set) body known fits) below short error (sym (found_is kind set body has) ∙ h)

-- Behind residues below q one that is not is refused at its place.
pub residue_refused : (kind : FrameKind) (set : ParamSet) (xs more : List ℕ) → HasResidues kind → IsSet set → All (λ x. x < q) xs → 7 ≤ length more
    → q ≤ number_of 256 (take 7 more) → length xs < body_len_of kind set / 7
    → found kind set (flat_map (number 7) xs ++ more) ≡ refuses (Residue (length (header_of kind set) + 7 * length xs) (number_of 256 (take 7 more)) q)
residue_refused kind set xs more has known below whole large within =
    let body : List ℕ = flat_map (number 7) xs ++ more in
    let w : List ℕ = frame_so_far kind set body in
    let fits = body_len_fits kind set known in
    found_is kind set body has
    ∙ refused_by (body_len_of kind set / 7) w (header_len_in w) (length w) xs more (body_at (code_of_kind kind) set (body_len_of kind set) body known fits)
    (size_is (code_of_kind kind) set (body_len_of kind set) body known fits) below whole large within
    ∙ ap (λ (k : ℕ). refuses (Residue (k + 7 * length xs) (number_of 256 (take 7 more)) q))
    (header_len_is (code_of_kind kind) set (body_len_of kind set) body known fits)
