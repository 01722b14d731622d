-- Encryptions: how they are put together, and their shape.
use Rattle.std.proofs.Common.{◌≡◌, ℕ, ◌+◌, ◌*◌, ◌^◌, ◌<◌, ◌≤◌, List, [], ◌∷◌, ◌++◌, length, take, All, sym, ◌∙◌, ap, arith}
use Rattle.std.proofs.lemmas.List.Elements.{All-nil, All-cons}
use Rattle.negacyclic.specs.Ring.{ring_mul, ring_add}
use Rattle.spiral_model.specs.Sets.{q}
use Rattle.spiral_model.specs.Sampling.{uniform_poly, error_poly}
use Rattle.spiral_model.specs.Ciphertexts.{encrypted_row, encrypted_rows, encrypted}
use Rattle.regev_code.specs.Shapes.{IsCipher}
use Rattle.regev_code.proofs.Samples.{length-uniform_poly}
use Rattle.negacyclic.proofs.Lengths.{length-ring_add}
use Rattle.regev_code.proofs.Rows.{rows_none, rows_all}

-- row 0 alone
pub encrypted_first : (N E : ℕ) (words : List ℕ) (start : ℕ) (drawn first : List ℕ) (none one : List (List ℕ)) → E ≡ N → drawn ≡ uniform_poly E words start → first ≡ drawn
    → none ≡ [] → one ≡ none ++ first ∷ [] → (first ≡ uniform_poly N words start) × (one ≡ uniform_poly N words start ∷ encrypted_rows N words (start + 2 * N) (uniform_poly N words start) [] [])
encrypted_first N E words start drawn first none one size is copied empty pushed =
    let a = uniform_poly N words start in
    let here : first ≡ a = copied ∙ is ∙ ap (λ (n : ℕ). uniform_poly n words start) size in (
      here,
      pushed ∙ ap (λ (rows : List (List ℕ)). rows ++ first ∷ []) empty ∙ ap (λ (b : List ℕ). b ∷ []) here
          ∙ ap (λ (rows : List (List ℕ)). a ∷ rows) (sym (rows_none N words (start + 2 * N) a)),
    )

-- row 0 and all rows behind it
pub encrypted_all_rows : (N : ℕ) (words : List ℕ) (start : ℕ) (secrets messages rows : List (List ℕ)) (i : ℕ) → length secrets ≤ i → length messages ≤ i
    → rows ≡ uniform_poly N words start ∷ encrypted_rows N words (start + 2 * N) (uniform_poly N words start) (take i secrets) (take i messages) → rows ≡ encrypted N words start secrets messages
unfolding encrypted
encrypted_all_rows N words start secrets messages rows i h g so_far =
    let a = uniform_poly N words start in
    so_far ∙ ap (λ (rest : List (List ℕ)). a ∷ rest) (rows_all N words (start + 2 * N) a secrets messages i h g)

length-encrypted_row : (N : ℕ) (a secret error message : List ℕ) → length (encrypted_row N a secret error message) ≡ N
unfolding encrypted_row
length-encrypted_row N a secret error message = length-ring_add q N (ring_add q N (ring_mul q N secret a) error) message

length-encrypted_rows : (N : ℕ) (words : List ℕ) (start : ℕ) (a : List ℕ) (secrets messages : List (List ℕ)) → length messages ≡ length secrets
    → length (encrypted_rows N words start a secrets messages) ≡ length messages
unfolding encrypted_rows
length-encrypted_rows N words start a [] [] same = omega arith
length-encrypted_rows N words start a [] (m ∷ messages) same = absurd (omega arith)
length-encrypted_rows N words start a (s ∷ secrets) [] same = absurd (omega arith)
length-encrypted_rows N words start a (s ∷ secrets) (m ∷ messages) same =
    let rest : length (encrypted_rows N words (start + N) a secrets messages) ≡ length messages =
    length-encrypted_rows N words (start + N) a secrets messages (omega arith) in
    omega arith

encrypted_rows-degree : (N : ℕ) (words : List ℕ) (start : ℕ) (a : List ℕ) (secrets messages : List (List ℕ)) → All (λ b. length b ≡ N) (encrypted_rows N words start a secrets messages)
unfolding encrypted_rows
encrypted_rows-degree N words start a [] messages = All-nil (λ (b : List ℕ). length b ≡ N)
encrypted_rows-degree N words start a (s ∷ secrets) [] = All-nil (λ (b : List ℕ). length b ≡ N)
encrypted_rows-degree N words start a (s ∷ secrets) (m ∷ messages) =
    All-cons (λ (b : List ℕ). length b ≡ N) (encrypted_row N a s (error_poly N words start) m) (encrypted_rows N words (start + N) a secrets messages)
    (length-encrypted_row N a s (error_poly N words start) m) (encrypted_rows-degree N words (start + N) a secrets messages)

-- An encryption has a row for each message and row 0, and each has N coefficients.
pub length-encrypted : (N : ℕ) (words : List ℕ) (start : ℕ) (secrets messages : List (List ℕ)) → length messages ≡ length secrets
    → length (encrypted N words start secrets messages) ≡ length messages + 1
unfolding encrypted
length-encrypted N words start secrets messages same =
    let rows = length-encrypted_rows N words (start + 2 * N) (uniform_poly N words start) secrets messages same in omega arith

pub encrypted-degree : (N : ℕ) (words : List ℕ) (start : ℕ) (secrets messages : List (List ℕ)) → All (λ b. length b ≡ N) (encrypted N words start secrets messages)
unfolding encrypted
encrypted-degree N words start secrets messages =
    All-cons (λ (b : List ℕ). length b ≡ N) (uniform_poly N words start) (encrypted_rows N words (start + 2 * N) (uniform_poly N words start) secrets messages)
    (length-uniform_poly N words start) (encrypted_rows-degree N words (start + 2 * N) (uniform_poly N words start) secrets messages)

pub encrypted-cipher : (N : ℕ) (words : List ℕ) (start : ℕ) (secrets messages : List (List ℕ)) → length messages ≡ length secrets → 1 ≤ length messages → length messages < 2 ^ 31
    → IsCipher (encrypted N words start secrets messages)
encrypted-cipher N words start secrets messages same some few =
    let count = length-encrypted N words start secrets messages same in
    let degrees = encrypted-degree N words start secrets messages in
    record {
      some = omega arith;
      few = omega arith;
      same = λ k d within. degrees k d within ∙ sym (degrees 0 [] (omega arith));
    }
