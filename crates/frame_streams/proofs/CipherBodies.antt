-- The bodies of Setup and Query: the shapes of their ciphertexts, what is read again, and what the checks of residues say.
use Rattle.std.proofs.Common.{◌≡◌, ℕ, zero, suc, ◌+◌, ◌*◌, ◌/◌, ◌<◌, Bool, true, false, List, [], ◌∷◌, ◌++◌, length, get_or, take, drop, replicate, All, refl, sym, ◌∙◌, ap, ap₂, subst, arith, if◌then◌else◌, length-append, ltb-true}
use Rattle.std.specs.Prelude.{nat_lt}
use Rattle.std.proofs.Math.Nat.{mul-div_cancel_left}
use Rattle.std.proofs.lemmas.List.{length-replicate, get_or-replicate, drop-drop}
use Rattle.std.proofs.lemmas.List.Elements.{All-from_get_or}
use Rattle.std.proofs.lemmas.List.Sums.{sum_by-cons}
use Rattle.negacyclic.specs.Digits.{number_of}
use Rattle.spiral_sets.specs.declared.param_set.ParamSet.{ParamSet}
use Rattle.spiral_sets.specs.Sets.{IsSet, q, rows}
use Rattle.spiral_sets.specs.Counts.{Ciphertexts, ciphertext_count, bytes_of, setup_ciphertexts, query_ciphertexts, firsts_count, gsw_count, setup_len, query_len}
use Rattle.frame_headers.proofs.Outcomes.{AllPass}
use Rattle.spiral_model.specs.Words.{Cipher, cipher_at}
use Rattle.spiral_model.specs.Ciphertexts.{IsCipher}
use Rattle.spiral_model.specs.Bodies.{CipherBody, IsSetup, IsQuery, rows_of, query_rows}
use Rattle.spiral_frames.specs.Frames.{cipher_bytes}
use Rattle.spiral_frames.specs.FrameChecks.{residue_at, residue_checks}
use Rattle.spiral_frames.proofs.SetupBodies.{HaveRows, rows_of_one_shape}
use Rattle.spiral_frames.proofs.DatabaseFrames.{not_false}
use Rattle.frame_streams.specs.Parsing.{ciphers_in, setup_in, query_in}
use Rattle.frame_streams.proofs.CipherPieces.{FitRows, FitResidues, numbers_of, ciphers_back, ciphers_spelled, ciphers_fit, length-ciphers_in}

-- ---- the shapes of ciphertexts, by their counts

-- how many ciphertexts there are
pub length-rows_of : (counts : List Ciphertexts) → length (rows_of counts) ≡ ciphertext_count counts
length-rows_of [] = refl
length-rows_of (c ∷ counts) =
    length-append (replicate c.how_many c.m) (rows_of counts)
    ∙ ap₂ (λ (a b : ℕ). a + b) (length-replicate {A = ℕ} c.how_many c.m) (length-rows_of counts)
    ∙ sym (sum_by-cons (λ (k : Ciphertexts). k.how_many) c counts)

numbers_of-append : (N : ℕ) (xs ys : List ℕ) → numbers_of N (xs ++ ys) ≡ numbers_of N xs + numbers_of N ys
numbers_of-append N [] ys = omega arith
numbers_of-append N (m ∷ xs) ys = omega (arith, numbers_of-append N xs ys)

numbers_of-replicate : (N m count : ℕ) → numbers_of N (replicate count m) ≡ count * ((m + 1) * N)
numbers_of-replicate N m zero = omega arith
numbers_of-replicate N m (suc count) = omega (arith, numbers_of-replicate N m count)

-- and how many bytes: 7 for each residue
numbers_of-rows : (set : ParamSet) (counts : List Ciphertexts) → 7 * numbers_of set.degree (rows_of counts) ≡ bytes_of set counts
numbers_of-rows set [] = omega arith
numbers_of-rows set (c ∷ counts) =
    let N : ℕ = set.degree in
    let both : numbers_of N (rows_of (c ∷ counts)) ≡ numbers_of N (replicate c.how_many c.m) + numbers_of N (rows_of counts) =
    numbers_of-append N (replicate c.how_many c.m) (rows_of counts) in
    let first : numbers_of N (replicate c.how_many c.m) ≡ c.how_many * ((c.m + 1) * N) = numbers_of-replicate N c.m c.how_many in
    let turned : 7 * (c.how_many * ((c.m + 1) * N)) ≡ c.how_many * (7 * (N * (c.m + 1))) = omega arith in
    let total : bytes_of set (c ∷ counts) ≡ c.how_many * (7 * (set.degree * (c.m + 1))) + bytes_of set counts =
    sum_by-cons (λ (k : Ciphertexts). k.how_many * (7 * (set.degree * (k.m + 1)))) c counts in
    let shared : 7 * (c.how_many * ((c.m + 1) * N) + numbers_of N (rows_of counts)) ≡ 7 * (c.how_many * ((c.m + 1) * N)) + 7 * numbers_of N (rows_of counts) =
    omega arith in
    ap (λ (n : ℕ). 7 * n) (both ∙ ap (λ (n : ℕ). n + numbers_of N (rows_of counts)) first)
    ∙ shared
    ∙ ap₂ (λ (a b : ℕ). a + b) turned (numbers_of-rows set counts)
    ∙ sym total

-- the ciphertexts of a query all have the same rows
query_has : (direct : Bool) (m a b : ℕ)
    → HaveRows (if direct then m else 1)
    (if direct then record { how_many = a; m = m } ∷ record { how_many = b; m = m } ∷ [] else record { how_many = 1; m = 1 } ∷ [])
query_has true m a b = (refl, (refl, tt))
query_has false m a b = (refl, tt)

query_shapes : (set : ParamSet) → rows_of (query_ciphertexts set) ≡ replicate (ciphertext_count (query_ciphertexts set)) (query_rows set)
query_shapes set =
    rows_of_one_shape (query_rows set) (query_ciphertexts set) (query_has set.direct (rows set) (firsts_count set) (set.nu2 * gsw_count set))

query_row : (set : ParamSet) (x : ℕ) → x < ciphertext_count (query_ciphertexts set) → get_or (rows_of (query_ciphertexts set)) x 0 ≡ query_rows set
query_row set x h =
    ap (λ (rs : List ℕ). get_or rs x 0) (query_shapes set) ∙ get_or-replicate (ciphertext_count (query_ciphertexts set)) x (query_rows set) 0 h

-- ---- bodies are read again

body_by : (k l : CipherBody) → k.set ≡ l.set → k.ciphers ≡ l.ciphers → k ≡ l
body_by k l set ciphers = λ i. record { set = set i; ciphers = ciphers i }

-- The keys of a Setup are read again from its body.
pub setup_back : (keys : CipherBody) → IsSetup keys → setup_in keys.set (cipher_bytes keys.ciphers) ≡ keys
unfolding setup_in
setup_back keys is =
    let ms : List ℕ = rows_of (setup_ciphertexts keys.set) in
    body_by (setup_in keys.set (cipher_bytes keys.ciphers)) keys refl
    (ciphers_back keys.set.degree ms keys.ciphers (is.count ∙ sym (length-rows_of (setup_ciphertexts keys.set))) is.shapes)

-- A query is read again from its body.
pub query_back : (query : CipherBody) → IsQuery query → query_in query.set (cipher_bytes query.ciphers) ≡ query
unfolding query_in
query_back query is =
    let set : ParamSet = query.set in
    let ms : List ℕ = rows_of (query_ciphertexts set) in
    let fit : FitRows set.degree ms query.ciphers =
    λ x h. subst (λ (m : ℕ). IsCipher set.degree m (cipher_at query.ciphers x)) (sym (query_row set x (omega (arith, is.count)))) (is.shapes x [] h) in
    body_by (query_in set (cipher_bytes query.ciphers)) query refl
    (ciphers_back set.degree ms query.ciphers (is.count ∙ sym (length-rows_of (query_ciphertexts set))) fit)

-- ---- bodies that pass the checks

-- the residues that pass are below q
residues_fit : (x : List ℕ) (start count size : ℕ) → AllPass (residue_checks x start count) size → FitResidues count (drop start x)
unfolding residue_checks
residues_fit x start zero size h i lt = absurd (omega arith)
residues_fit x start (suc count) size h zero lt =
    let none : 0 ≡ 7 * 0 = omega arith in
    let small : residue_at x start < q = ltb-true (residue_at x start) q (not_false (nat_lt (residue_at x start) q) h.1.0) in
    subst (λ (n : ℕ). number_of 256 (take 7 (drop n (drop start x))) < q) none small
residues_fit x start (suc count) size h (suc i) lt =
    let further : start + 7 + 7 * i ≡ start + 7 * suc i = omega arith in
    let same : drop (7 * i) (drop (start + 7) x) ≡ drop (7 * suc i) (drop start x) =
    drop-drop (7 * i) (start + 7) x ∙ ap (λ (n : ℕ). drop n x) further ∙ sym (drop-drop (7 * suc i) start x) in
    subst (λ (rest : List ℕ). number_of 256 (take 7 rest) < q) same (residues_fit x (start + 7) count size h.1.1 i (omega arith))

module _ (set : ParamSet) (x : List ℕ) (start size : ℕ) (known : IsSet set) (below : All (λ b. b < 256) (drop start x)) where
  abbrev body : List ℕ
  body = drop start x

  -- the residues of ciphertexts of these counts
  fit_of : (counts : List Ciphertexts) → AllPass (residue_checks x start (bytes_of set counts / 7)) size
      → FitResidues (numbers_of set.degree (rows_of counts)) body
  fit_of counts passed =
      let many : bytes_of set counts / 7 ≡ numbers_of set.degree (rows_of counts) =
      ap (λ (n : ℕ). n / 7) (sym (numbers_of-rows set counts)) ∙ mul-div_cancel_left (numbers_of set.degree (rows_of counts)) (omega arith) in
      subst (λ (n : ℕ). FitResidues n body) many (residues_fit x start (bytes_of set counts / 7) size passed)

  -- A Setup body that passes is that of the keys read from it.
  pub setup_spelled : length body ≡ setup_len set → AllPass (residue_checks x start (setup_len set / 7)) size
      → IsSetup (setup_in set body) × (cipher_bytes (setup_in set body).ciphers ≡ body)
  unfolding setup_in
  setup_spelled whole passed =
      let counts : List Ciphertexts = setup_ciphertexts set in
      let ms : List ℕ = rows_of counts in
      let is : IsSetup (setup_in set body) = record {
        known = known;
        count = length-ciphers_in set.degree ms body ∙ length-rows_of counts;
        shapes = ciphers_fit set.degree ms body (fit_of counts passed);
      } in
      (is, ciphers_spelled set.degree ms body (whole ∙ sym (numbers_of-rows set counts)) below)

  -- A Query body that passes is that of the query read from it.
  pub query_spelled : length body ≡ query_len set → AllPass (residue_checks x start (query_len set / 7)) size
      → IsQuery (query_in set body) × (cipher_bytes (query_in set body).ciphers ≡ body)
  unfolding query_in
  query_spelled whole passed =
      let counts : List Ciphertexts = query_ciphertexts set in
      let ms : List ℕ = rows_of counts in
      let ciphers : List Cipher = ciphers_in set.degree ms body in
      let many : length ciphers ≡ ciphertext_count counts = length-ciphers_in set.degree ms body ∙ length-rows_of counts in
      let fit : FitRows set.degree ms ciphers = ciphers_fit set.degree ms body (fit_of counts passed) in
      let is : IsQuery (query_in set body) = record {
        known = known;
        count = many;
        shapes =
            All-from_get_or (IsCipher set.degree (query_rows set)) ciphers []
            (λ i h. subst (λ (m : ℕ). IsCipher set.degree m (cipher_at ciphers i)) (query_row set i (omega (arith, many))) (fit i h));
      } in
      (is, ciphers_spelled set.degree ms body (whole ∙ sym (numbers_of-rows set counts)) below)
