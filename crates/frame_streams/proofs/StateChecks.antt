-- What the checks of a State's body find of the bytes that have come: the index is decided by the 8th, and each byte of the secret by itself.
use Rattle.std.proofs.Common.{◌≡◌, ℕ, zero, suc, ◌+◌, ◌-◌, ◌*◌, ◌<◌, ◌≤◌, inl, inr, true, false, not, List, [], ◌∷◌, ◌++◌, length, get_or, take, drop, All, refl, sym, ◌∙◌, ap, arith, length-append, lt-ltb, le-ltb}
use Rattle.std.specs.Prelude.{nat_lt}
use Rattle.std.proofs.lemmas.Bool.{cases_lt}
use Rattle.std.proofs.lemmas.List.{length-drop, get_or-drop}
use Rattle.negacyclic.specs.Digits.{number_of}
use Rattle.spiral_sets.specs.declared.param_set.ParamSet.{ParamSet}
use Rattle.spiral_sets.specs.Sets.{max_records}
use Rattle.spiral_sets.specs.Counts.{state_len}
use Rattle.frame_headers.specs.declared.frame_error.FrameError.{FrameError}
use Rattle.frame_headers.specs.declared.frame_error.FrameError.TheVariants.{Residue}
use Rattle.frame_headers.specs.declared.kind.FrameKind.TheVariants.{State}
use Rattle.frame_headers.specs.Checks.{Check, passes, refuses, ends_before, checked, number_at}
use Rattle.frame_headers.proofs.HeaderReading.{checked-ends, checked-fails, checked-passes, checked-none}
use Rattle.spiral_frames.specs.FrameChecks.{index_check, secret_checks, state_checks}
use Rattle.frame_streams.specs.Heads.{header_of, found, NotRefused}
use Rattle.frame_streams.proofs.BehindHeaders.{header_len_found, behind_header, byte_behind}

-- ---- the bytes of a secret

-- the check of the byte at a place
abbrev secret_check : List ℕ → ℕ → Check
secret_check bytes place = record { decided_at = place; fails = nat_lt 2 (get_or bytes place 0); refusal = Residue place (get_or bytes place 0) 3 }

secret_checks-suc : (bytes : List ℕ) (place count : ℕ) → secret_checks bytes place (suc count) ≡ secret_check bytes place ∷ secret_checks bytes (place + 1) count
unfolding secret_checks
secret_checks-suc bytes place count = refl

secret_checks-zero : (bytes : List ℕ) (place : ℕ) → secret_checks bytes place zero ≡ []
unfolding secret_checks
secret_checks-zero bytes place = refl

-- bytes that are at most 2 are not refused
small_pass : (bytes : List ℕ) (place count size : ℕ) → ((k : ℕ) → place ≤ k → k < size → get_or bytes k 0 ≤ 2) → (error : FrameError)
    → checked (secret_checks bytes place count) size ≡ refuses error → ⊥
small_pass bytes place zero size small error h =
    let none : checked (secret_checks bytes place zero) size ≡ passes = ap (λ (cs : List Check). checked cs size) (secret_checks-zero bytes place) ∙ checked-none size in
    cc
small_pass bytes place (suc count) size small error h =
    let rest : List Check = secret_checks bytes (place + 1) count in
    let here : checked (secret_checks bytes place (suc count)) size ≡ checked (secret_check bytes place ∷ rest) size =
    ap (λ (cs : List Check). checked cs size) (secret_checks-suc bytes place count) in
    elim (cases_lt place size) [
      | inl within ↦
          let fine : nat_lt 2 (get_or bytes place 0) ≡ false = le-ltb 2 (get_or bytes place 0) (small place (omega arith) within) in
          small_pass bytes (place + 1) count size (λ k from below. small k (omega arith) below) error
          (sym (here ∙ checked-passes (secret_check bytes place) rest size within fine) ∙ h)
      | inr beyond ↦
          let ends : checked (secret_checks bytes place (suc count)) size ≡ ends_before = here ∙ checked-ends (secret_check bytes place) rest size beyond in
          absurd (cc)
    ]

-- the first byte above 2 is refused
large_refused : (bytes : List ℕ) (place count size skipped at : ℕ) → at ≡ place + skipped → skipped < count → at < size
    → ((k : ℕ) → place ≤ k → k < at → get_or bytes k 0 ≤ 2) → 2 < get_or bytes at 0
    → checked (secret_checks bytes place count) size ≡ refuses (Residue at (get_or bytes at 0) 3)
large_refused bytes place zero size skipped at is one within small large = absurd (omega arith)
large_refused bytes place (suc count) size zero at is one within small large =
    let rest : List Check = secret_checks bytes (place + 1) count in
    let same : at ≡ place = omega arith in
    let fails : nat_lt 2 (get_or bytes place 0) ≡ true = lt-ltb 2 (get_or bytes place 0) (rw (← same) large) in
    ap (λ (cs : List Check). checked cs size) (secret_checks-suc bytes place count)
    ∙ checked-fails (secret_check bytes place) rest size (omega arith) fails
    ∙ ap (λ (p : ℕ). refuses (Residue p (get_or bytes p 0) 3)) (sym same)
large_refused bytes place (suc count) size (suc skipped) at is one within small large =
    let rest : List Check = secret_checks bytes (place + 1) count in
    let fine : nat_lt 2 (get_or bytes place 0) ≡ false = le-ltb 2 (get_or bytes place 0) (small place (omega arith) (omega arith)) in
    ap (λ (cs : List Check). checked cs size) (secret_checks-suc bytes place count)
    ∙ checked-passes (secret_check bytes place) rest size (omega arith) fine
    ∙ large_refused bytes (place + 1) count size skipped at (omega arith) (omega arith) within (λ k from below. small k (omega arith) below) large

-- ---- a State's body

module _ (set : ParamSet) (body : List ℕ) where
  -- the index that the first 8 bytes write
  abbrev index : ℕ
  index = number_of 256 (take 8 body)

  -- the frame so far, and where its body begins
  abbrev frame : List ℕ
  frame = header_of State set ++ body

  abbrev start : ℕ
  start = length (header_of State set)

  abbrev indexed : Check
  indexed = index_check set frame start

  abbrev secret : List Check
  secret = secret_checks frame (start + 8) (set.n * set.degree)

  found_is : found State set body ≡ checked (indexed ∷ secret) (length frame)
  unfolding state_checks
  found_is =
      ap (λ (s : ℕ). checked (index_check set frame s ∷ secret_checks frame (s + 8) (set.n * set.degree)) (length frame)) (header_len_found State set body)

  size : length frame ≡ start + length body
  size = length-append (header_of State set) body

  index_is : number_at frame start ≡ index
  index_is = ap (λ (l : List ℕ). number_of 256 (take 8 l)) (behind_header State set body)

  byte_at : (k : ℕ) → start ≤ k → get_or frame k 0 ≡ get_or body (k - start) 0
  byte_at k from =
      let there : start + (k - start) ≡ k = omega arith in
      ap (λ (p : ℕ). get_or frame p 0) (sym there) ∙ byte_behind State set body (k - start)

  -- the index is wanting
  pub index_wanting : length body < 8 → found State set body ≡ ends_before
  index_wanting few = found_is ∙ checked-ends indexed secret (length frame) (omega (arith, size))

  module _ (some : 8 ≤ length body) where
    -- the index is that of no record
    pub index_refused : max_records set ≤ index → found State set body ≡ refuses (Residue start index (max_records set))
    index_refused large =
        let below : nat_lt (number_at frame start) (max_records set) ≡ false = le-ltb (number_at frame start) (max_records set) (omega (arith, index_is)) in
        found_is ∙ checked-fails indexed secret (length frame) (omega (arith, size)) (ap not below)
        ∙ ap (λ (n : ℕ). refuses (Residue start n (max_records set))) index_is

    module _ (low : index < max_records set) where
      behind_index : found State set body ≡ checked secret (length frame)
      behind_index =
          let below : nat_lt (number_at frame start) (max_records set) ≡ true = lt-ltb (number_at frame start) (max_records set) (omega (arith, index_is)) in
          found_is ∙ checked-passes indexed secret (length frame) (omega (arith, size)) (ap not below)

      -- The first byte of the secret above 2 is refused.
      pub secret_refused : (k : ℕ) → 8 ≤ k → k < length body → k < state_len set → ((j : ℕ) → 8 ≤ j → j < k → get_or body j 0 ≤ 2) → 2 < get_or body k 0
          → found State set body ≡ refuses (Residue (start + k) (get_or body k 0) 3)
      secret_refused k from within fit small large =
          let here : get_or frame (start + k) 0 ≡ get_or body k 0 = byte_behind State set body k in
          behind_index
          ∙ large_refused frame (start + 8) (set.n * set.degree) (length frame) (k - 8) (start + k) (omega arith) (omega arith) (omega (arith, size))
          (λ j behind below. rw (byte_at j (omega arith)) (small (j - start) (omega arith) (omega arith))) (omega (arith, here))
          ∙ ap (λ (b : ℕ). refuses (Residue (start + k) b 3)) here

  ends_clean : found State set body ≡ ends_before → NotRefused State set body
  ends_clean ends error refused = cc

  -- An index of a record and bytes of a secret of at most 2, as far as they have come, are not refused.
  pub state_clean : (8 ≤ length body → index < max_records set) → All (λ b. b ≤ 2) (drop 8 body) → NotRefused State set body
  state_clean low small =
      elim (cases_lt (length body) 8) [
        | inl few ↦ ends_clean (index_wanting few)
        | inr some ↦
            λ error refused.
            small_pass frame (start + 8) (set.n * set.degree) (length frame)
            (λ k from below.
            let place : 8 + (k - start - 8) ≡ k - start = omega arith in
            let byte : get_or frame k 0 ≡ get_or (drop 8 body) (k - start - 8) 0 =
            byte_at k (omega arith) ∙ ap (λ (p : ℕ). get_or body p 0) (sym place) ∙ sym (get_or-drop 8 body (k - start - 8) 0) in
            rw byte (small (k - start - 8) 0 (omega (arith, size, length-drop 8 body))))
            error (sym (behind_index some (low some)) ∙ refused)
      ]
