-- The shape of encryptions that follow one another, with as many rows each or not.
use Rattle.std.proofs.Common.{◌≡◌, ℕ, suc, ◌+◌, ◌-◌, ◌*◌, ◌<◌, List, [], ◌∷◌, ◌++◌, length, get_or, replicate, All, refl, sym, ◌∙◌, ap, subst, arith, inl, inr, length-append}
use Rattle.std.proofs.lemmas.Bool.{cases_lt}
use Rattle.std.proofs.lemmas.List.{length-replicate, get_or-replicate, get_or_append_left, get_or-append_right}
use Rattle.std.proofs.lemmas.List.Elements.{All-nil, All-cons, All-head, All-tail}
use Rattle.negacyclic.specs.Ring.{ring_mul, ring_add}
use Rattle.negacyclic.proofs.Lengths.{length-ring_add, ring_add-below}
use Rattle.ring_poly.proofs.Modulus.{q_some}
use Rattle.spiral_sets.specs.Sets.{q}
use Rattle.spiral_model.specs.Words.{Poly, Cipher, cipher_at}
use Rattle.spiral_model.specs.Sampling.{uniform_poly, error_poly}
use Rattle.spiral_model.specs.Ciphertexts.{encrypted_row, encrypted_rows, encrypted, encrypted_all, words_taken, IsCipher}
use Rattle.regev_code.proofs.Samples.{uniform_poly-below, length-uniform_poly}
use Rattle.regev_code.proofs.Encryptions.{length-encrypted}
use Rattle.regev_code.proofs.MessageLists.{AreLists}

-- ---- one encryption

-- N residues
abbrev IsPoly : ℕ → Poly → Type 0
IsPoly N poly = (length poly ≡ N) × All (λ x. x < q) poly

row-poly : (N : ℕ) (a secret error message : Poly) → IsPoly N (encrypted_row N a secret error message)
unfolding encrypted_row
row-poly N a secret error message =
    let sum = ring_add q N (ring_mul q N secret a) error in (length-ring_add q N sum message, ring_add-below q N sum message q_some)

rows-polys : (N : ℕ) (words : List ℕ) (start : ℕ) (a : Poly) (secrets messages : List Poly) → All (λ poly. IsPoly N poly) (encrypted_rows N words start a secrets messages)
unfolding encrypted_rows
rows-polys N words start a [] messages = All-nil (λ (poly : Poly). IsPoly N poly)
rows-polys N words start a (s ∷ secrets) [] = All-nil (λ (poly : Poly). IsPoly N poly)
rows-polys N words start a (s ∷ secrets) (m ∷ messages) =
    All-cons (λ (poly : Poly). IsPoly N poly) (encrypted_row N a s (error_poly N words start) m) (encrypted_rows N words (start + N) a secrets messages)
    (row-poly N a s (error_poly N words start) m) (rows-polys N words (start + N) a secrets messages)

encrypted-polys : (N : ℕ) (words : List ℕ) (start : ℕ) (secrets messages : List Poly) → All (λ poly. IsPoly N poly) (encrypted N words start secrets messages)
unfolding encrypted
encrypted-polys N words start secrets messages =
    All-cons (λ (poly : Poly). IsPoly N poly) (uniform_poly N words start) (encrypted_rows N words (start + 2 * N) (uniform_poly N words start) secrets messages)
    (length-uniform_poly N words start, uniform_poly-below N words start) (rows-polys N words (start + 2 * N) (uniform_poly N words start) secrets messages)

encrypted-is : (N m : ℕ) (words : List ℕ) (start : ℕ) (secrets messages : List Poly) → length secrets ≡ m → length messages ≡ m → IsCipher N m (encrypted N words start secrets messages)
encrypted-is N m words start secrets messages many count = record {
  rows_count = length-encrypted N words start secrets messages (count ∙ sym many) ∙ ap (λ (n : ℕ). n + 1) count;
  residues = encrypted-polys N words start secrets messages;
}

-- ---- many with as many rows

pub length-encrypted_all : (N : ℕ) (words : List ℕ) (start : ℕ) (secrets : List Poly) (xs : List (List Poly)) → length (encrypted_all N words start secrets xs) ≡ length xs
unfolding encrypted_all
length-encrypted_all N words start secrets [] = refl
length-encrypted_all N words start secrets (x ∷ xs) = ap (λ (n : ℕ). suc n) (length-encrypted_all N words (start + words_taken N (length x)) secrets xs)

pub encrypted_all-ciphers : (N m : ℕ) (words : List ℕ) (start : ℕ) (secrets : List Poly) (xs : List (List Poly)) → length secrets ≡ m → All (λ x. length x ≡ m) xs
    → All (IsCipher N m) (encrypted_all N words start secrets xs)
unfolding encrypted_all
encrypted_all-ciphers N m words start secrets [] many all = All-nil (IsCipher N m)
encrypted_all-ciphers N m words start secrets (x ∷ xs) many all =
    All-cons (IsCipher N m) (encrypted N words start secrets x) (encrypted_all N words (start + words_taken N (length x)) secrets xs)
    (encrypted-is N m words start secrets x many (All-head (λ (x : List Poly). length x ≡ m) x xs all))
    (encrypted_all-ciphers N m words (start + words_taken N (length x)) secrets xs many (All-tail (λ (x : List Poly). length x ≡ m) x xs all))

-- ---- with their numbers of rows in a list

pub record AreShaped (N : ℕ) (rows : List ℕ) (ciphers : List Cipher) : Type 0 where
  pub count : length ciphers ≡ length rows
  pub each : (x : ℕ) → x < length ciphers → IsCipher N (get_or rows x 0) (cipher_at ciphers x)

cipher-same : (N m n : ℕ) (c d : Cipher) → m ≡ n → c ≡ d → IsCipher N n d → IsCipher N m c
cipher-same N m n c d rows same is = subst (λ (k : ℕ). IsCipher N k c) (sym rows) (subst (λ (x : Cipher). IsCipher N n x) (sym same) is)

-- those of one run
pub run-shaped : (N m n : ℕ) (words : List ℕ) (start : ℕ) (secrets : List Poly) (xs : List (List Poly)) (rows : List ℕ) → length secrets ≡ m → AreLists m n xs
    → rows ≡ replicate n m → AreShaped N rows (encrypted_all N words start secrets xs)
run-shaped N m n words start secrets xs rows many lists same =
    let ciphers = encrypted_all N words start secrets xs in
    let size : length ciphers ≡ n = length-encrypted_all N words start secrets xs ∙ lists.many in
    let all = encrypted_all-ciphers N m words start secrets xs many lists.each in
    record {
      count = size ∙ sym (ap length same ∙ length-replicate n m);
      each = λ x h.
          let within : x < n = omega (arith, size, h) in
          cipher-same N (get_or rows x 0) m (cipher_at ciphers x) (cipher_at ciphers x) (ap (λ (xs : List ℕ). get_or xs x 0) same ∙ get_or-replicate n x m 0 within)
          refl (all x [] h);
    }

-- one run behind another
pub shaped-append : (N : ℕ) (ms ns : List ℕ) (cs ds : List Cipher) → AreShaped N ms cs → AreShaped N ns ds → AreShaped N (ms ++ ns) (cs ++ ds)
shaped-append N ms ns cs ds first second = record {
  count = omega (arith, length-append cs ds, length-append ms ns, first.count, second.count);
  each = λ x h.
      elim (cases_lt x (length cs)) [
        | inl low ↦
            cipher-same N (get_or (ms ++ ns) x 0) (get_or ms x 0) (get_or (cs ++ ds) x []) (get_or cs x [])
            (get_or_append_left ms ns 0 x (omega (arith, first.count, low))) (get_or_append_left cs ds [] x low) (first.each x low)
        | inr high ↦
            cipher-same N (get_or (ms ++ ns) x 0) (get_or ns (x - length cs) 0) (get_or (cs ++ ds) x []) (get_or ds (x - length cs) [])
            (get_or-append_right ms ns (length cs) x 0 (sym first.count) high) (get_or-append_right cs ds (length cs) x [] refl high)
            (second.each (x - length cs) (omega (arith, length-append cs ds, h, high)))
      ];
}
