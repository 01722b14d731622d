-- Ciphertexts, read again from their bytes; and bytes that are those of the ciphertexts that are read from them.
use Rattle.std.proofs.Common.{◌≡◌, ℕ, zero, suc, ◌+◌, ◌*◌, ◌<◌, ◌≤◌, List, [], ◌∷◌, ◌++◌, length, get_or, take, drop, map, All, refl, sym, ◌∙◌, ap, ap₂, subst, arith, append-nil}
use Rattle.std.specs.List.{flat_map}
use Rattle.std.proofs.lemmas.Nat.{row_fits}
use Rattle.std.proofs.lemmas.List.{take_all, drop_at, drop-drop, length-drop, length-map, take-append-drop}
use Rattle.std.proofs.lemmas.List.Elements.{All-drop}
use Rattle.negacyclic.specs.Digits.{number_of}
use Rattle.negacyclic.proofs.Digits.{length-digits}
use Rattle.spiral_sets.specs.Sets.{q}
use Rattle.frame_headers.specs.Headers.{number}
use Rattle.frame_headers.proofs.HeaderLaws.{number_back, number_is}
use Rattle.spiral_model.specs.Words.{Poly, Cipher, cipher_at}
use Rattle.spiral_model.specs.Ciphertexts.{IsCipher}
use Rattle.spiral_frames.specs.Frames.{poly_bytes, rows_bytes, cipher_bytes}
use Rattle.spiral_frames.proofs.Bodies.{length-poly_bytes, rows_of_cipher}
use Rattle.spiral_frames.proofs.DatabaseFrames.{piece}
use Rattle.spiral_frames.proofs.SameKeys.{residue_fits}
use Rattle.frame_streams.specs.Parsing.{pieces, poly_in, cipher_in, ciphers_in}
use Rattle.frame_streams.proofs.CutPieces.{length-pieces, pieces_back, pieces_spelled, each_piece}

-- ---- ciphertexts are read again

residue_back : (x : ℕ) → x < q → number_of 256 (number 7 x) ≡ x
residue_back x below = number_back 7 x (omega (arith, residue_fits))

-- N residues
abbrev pub IsPoly : ℕ → Poly → Type 0
IsPoly N poly = (length poly ≡ N) × All (λ x. x < q) poly

poly_back : (N : ℕ) (poly : Poly) → IsPoly N poly → poly_in N (poly_bytes poly) ≡ poly
poly_back N poly is =
    ap (λ (bytes : List ℕ). map (number_of 256) (pieces 7 N bytes)) (sym (append-nil (poly_bytes poly)))
    ∙ pieces_back (number 7) (number_of 256) 7 (λ x. x < q) (λ x below. length-digits 256 7 x) residue_back N poly [] is.0 is.1

cipher_back : (N m : ℕ) (cipher : Cipher) (rest : List ℕ) → IsCipher N m cipher → cipher_in N m (rows_bytes cipher ++ rest) ≡ cipher
cipher_back N m cipher rest is =
    pieces_back poly_bytes (poly_in N) (7 * N) (IsPoly N) (λ poly fits. length-poly_bytes poly ∙ ap (λ (n : ℕ). 7 * n) fits.0) (poly_back N)
    (m + 1) cipher rest is.rows_count is.residues

-- Ciphertext x has N coefficients in each row, and as many rows below row 0 as the list says at place x.
abbrev pub FitRows : ℕ → List ℕ → List Cipher → Type 0
FitRows N ms ciphers = (x : ℕ) → x < length ciphers → IsCipher N (get_or ms x 0) (cipher_at ciphers x)

-- Ciphertexts of these shapes are read again from their bytes.
pub ciphers_back : (N : ℕ) (ms : List ℕ) (ciphers : List Cipher) → length ciphers ≡ length ms → FitRows N ms ciphers
    → ciphers_in N ms (cipher_bytes ciphers) ≡ ciphers
unfolding ciphers_in cipher_bytes
ciphers_back N [] [] many fit = refl
ciphers_back N [] (cipher ∷ ciphers) many fit = absurd (omega (arith, many))
ciphers_back N (m ∷ ms) [] many fit = absurd (omega (arith, many))
ciphers_back N (m ∷ ms) (cipher ∷ ciphers) many fit =
    let first : IsCipher N m cipher = fit 0 (omega arith) in
    let rest : List ℕ = flat_map rows_bytes ciphers in
    let behind : drop ((m + 1) * (7 * N)) (rows_bytes cipher ++ rest) ≡ rest =
    drop_at (rows_bytes cipher) rest ((m + 1) * (7 * N)) (rows_of_cipher N m cipher first) in
    let others : ciphers_in N ms rest ≡ ciphers = ciphers_back N ms ciphers (omega (arith, many)) (λ x h. fit (suc x) (omega arith)) in
    ap₂ (λ (c : Cipher) (cs : List Cipher). c ∷ cs) (cipher_back N m cipher rest first) (ap (ciphers_in N ms) behind ∙ others)

-- ---- bytes are those of the ciphertexts that are read from them

residue_spelled : (bytes : List ℕ) → length bytes ≡ 7 → All (λ b. b < 256) bytes → number 7 (number_of 256 bytes) ≡ bytes
residue_spelled bytes seven below = sym (number_is 7 (number_of 256 bytes) bytes seven below refl)

poly_spelled : (N : ℕ) (bytes : List ℕ) → length bytes ≡ 7 * N → All (λ b. b < 256) bytes → poly_bytes (poly_in N bytes) ≡ bytes
poly_spelled N bytes size below =
    pieces_spelled (number 7) (number_of 256) 7 residue_spelled N bytes (omega (arith, size)) below
    ∙ take_all (N * 7) bytes (omega (arith, size))

cipher_spelled : (N m : ℕ) (bytes : List ℕ) → (m + 1) * (7 * N) ≤ length bytes → All (λ b. b < 256) bytes
    → rows_bytes (cipher_in N m bytes) ≡ take ((m + 1) * (7 * N)) bytes
cipher_spelled N m bytes room below = pieces_spelled poly_bytes (poly_in N) (7 * N) (poly_spelled N) (m + 1) bytes room below

-- how many residues ciphertexts of these shapes have
abbrev pub numbers_of : ℕ → List ℕ → ℕ
numbers_of N [] = 0
numbers_of N (m ∷ ms) = (m + 1) * N + numbers_of N ms

-- Bytes of ciphertexts of these shapes are those of the ciphertexts that are read from them.
pub ciphers_spelled : (N : ℕ) (ms : List ℕ) (bytes : List ℕ) → length bytes ≡ 7 * numbers_of N ms → All (λ b. b < 256) bytes
    → cipher_bytes (ciphers_in N ms bytes) ≡ bytes
unfolding ciphers_in cipher_bytes
ciphers_spelled N [] [] size below = refl
ciphers_spelled N [] (b ∷ bytes) size below = absurd (omega (arith, size))
ciphers_spelled N (m ∷ ms) bytes size below =
    let len : ℕ = (m + 1) * (7 * N) in
    let whole : length bytes ≡ len + 7 * numbers_of N ms = omega (arith, size) in
    let rest : length (drop len bytes) ≡ 7 * numbers_of N ms = omega (arith, length-drop len bytes, whole) in
    ap₂ (λ (x y : List ℕ). x ++ y) (cipher_spelled N m bytes (omega (arith, whole)) below)
    (ciphers_spelled N ms (drop len bytes) rest (All-drop (λ b. b < 256) len bytes below))
    ∙ take-append-drop len bytes

-- ---- and have the shapes, where all residues are below q

-- each of the first so many residues of the bytes is below q
abbrev pub FitResidues : ℕ → List ℕ → Type 0
FitResidues count bytes = (i : ℕ) → i < count → number_of 256 (take 7 (drop (7 * i) bytes)) < q

-- those behind the first a
fit_behind : (a b : ℕ) (bytes : List ℕ) → FitResidues (a + b) bytes → FitResidues b (drop (7 * a) bytes)
fit_behind a b bytes fit i h =
    let place : 7 * (a + i) ≡ 7 * a + 7 * i = omega arith in
    let same : drop (7 * (a + i)) bytes ≡ drop (7 * i) (drop (7 * a) bytes) = ap (λ (n : ℕ). drop n bytes) place ∙ sym (drop-drop (7 * i) (7 * a) bytes) in
    subst (λ (rest : List ℕ). number_of 256 (take 7 rest) < q) same (fit (a + i) (omega arith))

-- those of row i
fit_row : (N count i : ℕ) (bytes : List ℕ) → i < count → FitResidues (count * N) bytes → FitResidues N (take (7 * N) (drop (7 * N * i) bytes))
fit_row N count i bytes h fit j g =
    let within : i * N + N ≤ count * N = row_fits i N count N h (omega arith) in
    let place : 7 * (i * N + j) ≡ 7 * N * i + 7 * j = omega arith in
    let same : drop (7 * (i * N + j)) bytes ≡ drop (7 * j) (drop (7 * N * i) bytes) =
    ap (λ (n : ℕ). drop n bytes) place ∙ sym (drop-drop (7 * j) (7 * N * i) bytes) in
    let cut : take 7 (drop (7 * j) (take (7 * N) (drop (7 * N * i) bytes))) ≡ take 7 (drop (7 * j) (drop (7 * N * i) bytes)) =
    piece (7 * N) (drop (7 * N * i) bytes) (7 * j) 7 (omega arith) in
    subst (λ (x : List ℕ). number_of 256 x < q) (ap (take 7) same ∙ sym cut) (fit (i * N + j) (omega (arith, within)))

poly_fits : (N : ℕ) (bytes : List ℕ) → FitResidues N bytes → IsPoly N (poly_in N bytes)
poly_fits N bytes fit = (
  length-map (pieces 7 N bytes) (number_of 256) ∙ length-pieces 7 N bytes,
  each_piece (λ x. x < q) (number_of 256) 7 N bytes fit,
)

cipher_fits : (N m : ℕ) (bytes : List ℕ) → FitResidues ((m + 1) * N) bytes → IsCipher N m (cipher_in N m bytes)
cipher_fits N m bytes fit = record {
  rows_count = length-map (pieces (7 * N) (m + 1) bytes) (poly_in N) ∙ length-pieces (7 * N) (m + 1) bytes;
  residues =
      each_piece (IsPoly N) (poly_in N) (7 * N) (m + 1) bytes
      (λ i h. poly_fits N (take (7 * N) (drop (7 * N * i) bytes)) (fit_row N (m + 1) i bytes h fit));
}

-- as many are read as there are shapes
pub length-ciphers_in : (N : ℕ) (ms bytes : List ℕ) → length (ciphers_in N ms bytes) ≡ length ms
unfolding ciphers_in
length-ciphers_in N [] bytes = refl
length-ciphers_in N (m ∷ ms) bytes = omega (arith, length-ciphers_in N ms (drop ((m + 1) * (7 * N)) bytes))

-- Ciphertexts that are read have their shapes, where all residues are below q.
pub ciphers_fit : (N : ℕ) (ms bytes : List ℕ) → FitResidues (numbers_of N ms) bytes → FitRows N ms (ciphers_in N ms bytes)
unfolding ciphers_in
ciphers_fit N [] bytes fit x h = absurd (omega arith)
ciphers_fit N (m ∷ ms) bytes fit zero h = cipher_fits N m bytes (λ i g. fit i (omega arith))
ciphers_fit N (m ∷ ms) bytes fit (suc x) h =
    let place : 7 * ((m + 1) * N) ≡ (m + 1) * (7 * N) = omega arith in
    let rest : FitResidues (numbers_of N ms) (drop ((m + 1) * (7 * N)) bytes) =
    subst (λ (n : ℕ). FitResidues (numbers_of N ms) (drop n bytes)) place (fit_behind ((m + 1) * N) (numbers_of N ms) bytes fit) in
    ciphers_fit N ms (drop ((m + 1) * (7 * N)) bytes) rest x (omega arith)
