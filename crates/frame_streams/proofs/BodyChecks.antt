-- The checks of a body pass on the body of a message, whatever follows it.
use Rattle.std.proofs.Common.{◌≡◌, ℕ, zero, suc, ◌+◌, ◌*◌, ◌/◌, ◌^◌, ◌<◌, ◌≤◌, false, ◌||◌, not, List, [], ◌∷◌, ◌++◌, length, get_or, take, drop, All, refl, sym, ◌∙◌, ap, arith, length-append, length-drop, lt-ltb, eq-eqb}
use Rattle.std.specs.Prelude.{nat_eq, nat_lt}
use Rattle.std.specs.List.{flat_map}
use Rattle.std.proofs.lemmas.Bool.{le-ltb}
use Rattle.std.proofs.lemmas.List.{drop-drop, drop-append-le, take-append-le, get_or-drop}
use Rattle.std.proofs.lemmas.List.Elements.{All-head, All-tail, All-append, All-from_get_or}
use Rattle.std.proofs.lemmas.Grind.{flat_map-append}
use Rattle.negacyclic.specs.Digits.{number_of}
use Rattle.spiral_sets.specs.declared.param_set.ParamSet.{ParamSet}
use Rattle.spiral_sets.specs.Sets.{IsSet, q, max_records, capacity}
use Rattle.frame_headers.specs.Headers.{header, number}
use Rattle.frame_headers.specs.Checks.{passes, checked, number_at, header_len_in, body_len_in}
use Rattle.frame_headers.proofs.Outcomes.{AllPass, passed_all}
use Rattle.spiral_model.specs.Words.{Poly, Cipher}
use Rattle.spiral_model.specs.Bodies.{CipherBody, IsSetup, IsQuery}
use Rattle.spiral_frames.specs.Frames.{poly_bytes, rows_bytes, cipher_bytes}
use Rattle.spiral_frames.specs.FrameChecks.{residue_checks, reply_checks, secret_checks, state_checks, database_checks}
use Rattle.spiral_frames.proofs.Bodies.{length-poly_bytes}
use Rattle.spiral_frames.proofs.SpelledDatabases.{right_length}
use Rattle.frame_streams.proofs.BehindHeaders.{body_at, body_from, size_is, len_in_front}
use Rattle.frame_streams.proofs.ResidueChecks.{residues_pass}

-- ---- the residues of ciphertexts, one behind another

-- those of a ciphertext, row by row
abbrev pub row_residues : Cipher → List ℕ
row_residues cipher = flat_map (λ (row : Poly). row) cipher

-- those of ciphertexts
abbrev pub all_residues : List Cipher → List ℕ
all_residues ciphers = flat_map row_residues ciphers

-- the bytes of a ciphertext are those of its residues
rows_spelled : (cipher : Cipher) → rows_bytes cipher ≡ flat_map (number 7) (row_residues cipher)
rows_spelled [] = refl
rows_spelled (row ∷ rows) =
    ap (λ (t : List ℕ). poly_bytes row ++ t) (rows_spelled rows) ∙ sym (flat_map-append (number 7) row (row_residues rows))

-- The bytes of ciphertexts are those of their residues.
pub ciphers_spelled : (ciphers : List Cipher) → cipher_bytes ciphers ≡ flat_map (number 7) (all_residues ciphers)
unfolding cipher_bytes
ciphers_spelled [] = refl
ciphers_spelled (cipher ∷ ciphers) =
    ap (λ (t : List ℕ). rows_bytes cipher ++ t) (ciphers_spelled ciphers)
    ∙ ap (λ (t : List ℕ). t ++ flat_map (number 7) (all_residues ciphers)) (rows_spelled cipher)
    ∙ sym (flat_map-append (number 7) (row_residues cipher) (all_residues ciphers))

abbrev AreBelow : Cipher → Type 0
AreBelow cipher = All (λ (row : Poly). All (λ x. x < q) row) cipher

rows_below : (cipher : Cipher) → AreBelow cipher → All (λ x. x < q) (row_residues cipher)
rows_below [] below = λ i d h. absurd (omega arith)
rows_below (row ∷ rows) below =
    All-append (λ x. x < q) row (row_residues rows) (All-head (λ (r : Poly). All (λ x. x < q) r) row rows below)
    (rows_below rows (All-tail (λ (r : Poly). All (λ x. x < q) r) row rows below))

-- Where the numbers of each row are below q, all residues are.
pub residues_below : (ciphers : List Cipher) → All AreBelow ciphers → All (λ x. x < q) (all_residues ciphers)
residues_below [] below = λ i d h. absurd (omega arith)
residues_below (cipher ∷ ciphers) below =
    All-append (λ x. x < q) (row_residues cipher) (all_residues ciphers) (rows_below cipher (All-head AreBelow cipher ciphers below))
    (residues_below ciphers (All-tail AreBelow cipher ciphers below))

-- those of a query are below q
pub query_below : (query : CipherBody) → IsQuery query → All (λ x. x < q) (all_residues query.ciphers)
query_below query is = residues_below query.ciphers (λ i d h k e g. ((is.shapes i d h).residues k e g).1)

-- and those of keys
pub setup_below : (keys : CipherBody) → IsSetup keys → All (λ x. x < q) (all_residues keys.ciphers)
setup_below keys is = residues_below keys.ciphers (All-from_get_or AreBelow keys.ciphers [] (λ x h k e g. ((is.shapes x h).residues k e g).1))

-- so many residues have so many bytes
residues_many : (xs : List ℕ) (len : ℕ) → length (flat_map (number 7) xs) ≡ len → length xs ≡ len / 7
residues_many xs len e = let seven : 7 * length xs ≡ len = sym (length-poly_bytes xs) ∙ e in omega arith

-- ---- behind a header with this body and more

module _ (code : ℕ) (set : ParamSet) (len : ℕ) (known : IsSet set) (fits : len < 256 ^ 8) (body rest : List ℕ) where
  abbrev w : List ℕ
  w = header code set len ++ (body ++ rest)

  start_at : drop (header_len_in w) w ≡ body ++ rest
  start_at = body_at code set len (body ++ rest) known fits

  long : length w ≡ header_len_in w + length (body ++ rest)
  long = size_is code set len (body ++ rest) known fits

  long_body : length w ≡ header_len_in w + length body + length rest
  long_body = omega (arith, long, length-append body rest)

  -- residues below q, as many as the body has
  pub ciphers_pass : (ciphers : List Cipher) (size : ℕ) → body ≡ cipher_bytes ciphers → length body ≡ size → All (λ x. x < q) (all_residues ciphers)
      → checked (residue_checks w (header_len_in w) (size / 7)) (length w) ≡ passes
  ciphers_pass ciphers size is many below =
      let spelled : body ≡ flat_map (number 7) (all_residues ciphers) = is ∙ ciphers_spelled ciphers in
      let at : drop (header_len_in w) w ≡ flat_map (number 7) (all_residues ciphers) ++ rest = start_at ∙ ap (λ (t : List ℕ). t ++ rest) spelled in
      let size_is : length w ≡ header_len_in w + length (flat_map (number 7) (all_residues ciphers) ++ rest) =
      long ∙ ap (λ (t : List ℕ). header_len_in w + length (t ++ rest)) spelled in
      residues_pass (size / 7) w (header_len_in w) (length w) (all_residues ciphers) rest at size_is below
      (residues_many (all_residues ciphers) size (ap length (sym spelled) ∙ many))

  -- the number in the first 8 bytes, and in the 8 behind them
  first_number : (x : ℕ) → 8 ≤ length body → number_of 256 (take 8 body) ≡ x → number_at w (header_len_in w) ≡ x
  first_number x enough is = ap (λ (l : List ℕ). number_of 256 (take 8 l)) start_at ∙ ap (number_of 256) (take-append-le 8 body rest enough) ∙ is

  second_number : (x : ℕ) → 16 ≤ length body → number_of 256 (take 8 (drop 8 body)) ≡ x → number_at w (header_len_in w + 8) ≡ x
  second_number x enough is =
      let behind : 8 ≤ length (drop 8 body) = omega (arith, length-drop 8 body) in
      ap (λ (l : List ℕ). number_of 256 (take 8 l)) (body_from code set len (body ++ rest) known fits 8 ∙ drop-append-le 8 body rest (omega arith))
      ∙ ap (number_of 256) (take-append-le 8 (drop 8 body) rest behind)
      ∙ is

  few : (count : ℕ) → number_at w (header_len_in w) ≡ count → count ≤ max_records set → nat_lt (max_records set) (number_at w (header_len_in w)) ≡ false
  few count is within = ap (λ (k : ℕ). nat_lt (max_records set) k) is ∙ le-ltb (max_records set) count within

  right : (size : ℕ) → number_at w (header_len_in w + 8) ≡ size → 0 < size → size ≤ capacity set
      → (nat_eq (number_at w (header_len_in w + 8)) 0 || nat_lt (capacity set) (number_at w (header_len_in w + 8))) ≡ false
  right size is some within = ap (λ (k : ℕ). nat_eq k 0 || nat_lt (capacity set) k) is ∙ right_length size (capacity set) some within

  -- the numbers of a reply
  pub reply_pass : (count size : ℕ) → 16 ≤ length body → number_of 256 (take 8 body) ≡ count → number_of 256 (take 8 (drop 8 body)) ≡ size
      → count ≤ max_records set → 0 < size → size ≤ capacity set → checked (reply_checks set w) (length w) ≡ passes
  unfolding reply_checks
  reply_pass count size enough count_is size_is most some within =
      let there : header_len_in w + 16 ≤ length w = omega (arith, long_body) in
      let count_here = few count (first_number count (omega arith) count_is) most in
      let size_here = right size (second_number size enough size_is) some within in
      passed_all (reply_checks set w) (length w) (omega arith, (count_here, (omega arith, (size_here, tt))))

  -- those of a database, and the body length that they give
  pub database_pass : (count size : ℕ) → 16 ≤ length body → number_of 256 (take 8 body) ≡ count → number_of 256 (take 8 (drop 8 body)) ≡ size
      → count ≤ max_records set → 0 < size → size ≤ capacity set → len ≡ 16 + count * size → checked (database_checks set w) (length w) ≡ passes
  unfolding database_checks
  database_pass count size enough count_is size_is most some within whole =
      let there : header_len_in w + 16 ≤ length w = omega (arith, long_body) in
      let count_at : number_at w (header_len_in w) ≡ count = first_number count (omega arith) count_is in
      let size_at : number_at w (header_len_in w + 8) ≡ size = second_number size enough size_is in
      let product : body_len_in w ≡ 16 + number_at w (header_len_in w) * number_at w (header_len_in w + 8) =
      len_in_front code set len (body ++ rest) known fits ∙ whole
      ∙ ap (λ (k : ℕ). 16 + k * size) (sym count_at)
      ∙ ap (λ (k : ℕ). 16 + number_at w (header_len_in w) * k) (sym size_at) in
      let product_here = ap not (eq-eqb (body_len_in w) (16 + number_at w (header_len_in w) * number_at w (header_len_in w + 8)) product) in
      let count_here = few count count_at most in
      let size_here = right size size_at some within in
      passed_all (database_checks set w) (length w) (omega arith, (count_here, (omega arith, (size_here, (omega arith, (product_here, tt))))))

-- ---- the bytes of a secret

-- Each of these bytes is 0, 1 or 2.
secrets_pass : (count : ℕ) (bytes : List ℕ) (place size : ℕ) (bs more : List ℕ) → drop place bytes ≡ bs ++ more → place + count ≤ size
    → All (λ b. b ≤ 2) bs → length bs ≡ count → AllPass (secret_checks bytes place count) size
unfolding secret_checks
secrets_pass zero bytes place size bs more at there small many = tt
secrets_pass (suc count) bytes place size [] more at there small many = absurd (omega arith)
secrets_pass (suc count) bytes place size (b ∷ bs) more at there small many =
    let low : b ≤ 2 = All-head (λ b. b ≤ 2) b bs small in
    let same : place + 0 ≡ place = omega arith in
    let byte_is : get_or bytes place 0 ≡ b =
    ap (λ (k : ℕ). get_or bytes k 0) (sym same) ∙ sym (get_or-drop place bytes 0 0) ∙ ap (λ (l : List ℕ). get_or l 0 0) at in
    let next : drop (place + 1) bytes ≡ bs ++ more = sym (drop-drop 1 place bytes) ∙ ap (drop 1) at in (
      omega arith,
      (
        ap (λ (k : ℕ). nat_lt 2 k) byte_is ∙ le-ltb 2 b low,
        secrets_pass count bytes (place + 1) size bs more next (omega arith)
            (All-tail (λ b. b ≤ 2) b bs small) (omega arith),
      ),
    )

module _ (code : ℕ) (set : ParamSet) (len : ℕ) (known : IsSet set) (fits : len < 256 ^ 8) (body rest : List ℕ) where
  -- the index of a state, and the bytes of its secret
  pub state_pass : (index : ℕ) (bs : List ℕ) → length body ≡ 8 + length bs → number_of 256 (take 8 body) ≡ index → drop 8 body ≡ bs → index < max_records set
      → All (λ b. b ≤ 2) bs → length bs ≡ set.n * set.degree
      → checked (state_checks set (header code set len ++ (body ++ rest))) (length (header code set len ++ (body ++ rest))) ≡ passes
  unfolding state_checks
  state_pass index bs size index_is secret_is within small many =
      let w : List ℕ = header code set len ++ (body ++ rest) in
      let whole : length w ≡ header_len_in w + length body + length rest = long_body code set len known fits body rest in
      let index_at : number_at w (header_len_in w) ≡ index = first_number code set len known fits body rest index (omega (arith, size)) index_is in
      let index_here : not (nat_lt (number_at w (header_len_in w)) (max_records set)) ≡ false =
      ap (λ (k : ℕ). not (nat_lt k (max_records set))) index_at ∙ ap not (lt-ltb index (max_records set) within) in
      let behind : drop (header_len_in w + 8) w ≡ bs ++ rest =
      body_from code set len (body ++ rest) known fits 8
      ∙ drop-append-le 8 body rest (omega (arith, size))
      ∙ ap (λ (t : List ℕ). t ++ rest) secret_is in
      let secret_here : AllPass (secret_checks w (header_len_in w + 8) (set.n * set.degree)) (length w) =
      secrets_pass (set.n * set.degree) w (header_len_in w + 8) (length w) bs rest behind (omega (arith, whole, size, many)) small many in
      passed_all (state_checks set w) (length w) (omega (arith, whole, size), (index_here, secret_here))
