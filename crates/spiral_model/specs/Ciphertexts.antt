-- Regev ciphertexts over the ring: a list of polynomials c_0 to c_m, under secrets s_1 to s_m.
use Rattle.std.specs.Prelude.{ℕ, ℤ, List, [], ◌∷◌, ◌≡◌, ◌<◌, ◌+◌, ◌*◌, ◌==◌, length, if◌then◌else◌, pos, All}
use Rattle.negacyclic.specs.Ring.{reduced, ring_add, ring_sub, ring_mul}
use Rattle.spiral_sets.specs.Sets.{q}
use Rattle.spiral_model.specs.Words.{Poly, Cipher, row_of}
use Rattle.spiral_model.specs.Sampling.{uniform_poly, error_poly}

-- a ciphertext with rows 0 to m, each of N residues
pub record IsCipher (N m : ℕ) (cipher : Cipher) : Type 0 where
  pub rows_count : length cipher ≡ m + 1
  pub residues : All (λ poly. (length poly ≡ N) × All (λ x. x < q) poly) cipher

-- The phase in row i under its secret s: c_i - s c_0. It is the message of that row and a small error.
unfoldable pub phase : ℕ → Poly → Cipher → ℕ → Poly
phase N secret cipher i = ring_sub q N (row_of cipher i) (ring_mul q N secret (row_of cipher 0))

-- A row of an encryption: s a + e + M.
unfoldable pub encrypted_row : ℕ → Poly → Poly → Poly → Poly → Poly
encrypted_row N a secret error message = ring_add q N (ring_add q N (ring_mul q N secret a) error) message

-- The rows of an encryption with uniform part a, one for each secret and its message; the error of each takes the
-- next N words.
unfoldable pub encrypted_rows : ℕ → List ℕ → ℕ → Poly → List Poly → List Poly → List Poly
encrypted_rows N words start a (secret ∷ secrets) (message ∷ messages) =
    encrypted_row N a secret (error_poly N words start) message ∷ encrypted_rows N words (start + N) a secrets messages
encrypted_rows N words start a (secret ∷ secrets) [] = []
encrypted_rows N words start a [] messages = []

-- The encryption of m messages under m secrets by the words from `start` on: row 0 is the uniform part, of 2N words;
-- N words for the error of each further row follow.
unfoldable pub encrypted : ℕ → List ℕ → ℕ → List Poly → List Poly → Cipher
encrypted N words start secrets messages =
    uniform_poly N words start ∷ encrypted_rows N words (start + 2 * N) (uniform_poly N words start) secrets messages

-- how many words an encryption of m messages takes
abbrev pub words_taken : ℕ → ℕ → ℕ
words_taken N m = N * (2 + m)

-- Encryptions one after the other, each by the words behind those of the one before.
unfoldable pub encrypted_all : ℕ → List ℕ → ℕ → List Poly → List (List Poly) → List Cipher
encrypted_all N words start secrets [] = []
encrypted_all N words start secrets (messages ∷ rest) =
    encrypted N words start secrets messages ∷ encrypted_all N words (start + words_taken N (length messages)) secrets rest

-- a number as a polynomial: at place 0
unfoldable pub constant : ℕ → ℤ → Poly
constant N z = reduced q N (λ k. if k == 0 then z else pos 0)
