-- The shapes of secrets and ciphertexts, and what is drawn.
use Rattle.std.specs.Prelude.{ℕ, ℤ, Bool, true, false, List, [], ◌≡◌, ◌+◌, ◌-◌, ◌*◌, ◌^◌, ◌<◌, ◌≤◌, length, map, if◌then◌else◌, slice_index_or, Some, None, All}
use Rattle.std.specs.List.{range_with_len}
use Rattle.std.specs.Option.{option_to_list}
use Rattle.spiral_sets.specs.declared.param_set.ParamSet.{ParamSet}
use Rattle.spiral_model.specs.Sets.{has_keys}
use Rattle.spiral_model.specs.Words.{Poly, Cipher, poly_of, row_of}
use Rattle.spiral_model.specs.Sampling.{secret_numbers, secret_poly}
use Rattle.regev_code.specs.Seen.{Secrets, Cursor}

-- the numbers of a secret as a polynomial, which has as many coefficients
abbrev pub polynomial_of : List ℤ → Poly
polynomial_of numbers = secret_poly (length numbers) numbers

-- the numbers of the secret s_r, for r from 1 on
abbrev pub secret_row : Secrets → ℕ → List ℤ
secret_row secrets r = slice_index_or secrets.rows (r - 1) []

-- the numbers of the secrets under which a ciphertext is: those of the scalar secret alone, or of s_1 to s_n
abbrev pub numbers_under : Secrets → Bool → List (List ℤ)
numbers_under secrets true = option_to_list secrets.scalar
numbers_under secrets false = secrets.rows

-- the same as polynomials of degree N
abbrev pub under : ℕ → Secrets → Bool → List Poly
under N secrets scalar = map (secret_poly N) (numbers_under secrets scalar)

-- the scalar secret as a polynomial
abbrev pub scalar_of : ℕ → Secrets → Poly
scalar_of N secrets = poly_of (under N secrets true) 0

-- the secrets s_1 to s_n that the words from `start` on give, N words for each
abbrev pub rows_from : ℕ → ℕ → List ℕ → ℕ → List (List ℤ)
rows_from N n words start = map (λ r. secret_numbers N words (start + r * N)) (range_with_len 0 n)

-- the secrets that the words from `start` on give: the scalar one, where the set has it, then s_1 to s_n
abbrev pub secrets_from : ParamSet → List ℕ → ℕ → Secrets
secrets_from set words start = record {
  scalar = if has_keys set then Some (secret_numbers set.degree words start) else None;
  rows = rows_from set.degree set.n words (start + (if has_keys set then set.degree else 0));
}

-- so many words were taken
abbrev pub taken : Cursor → ℕ → Cursor
taken cursor count = record cursor { used = cursor.used + count }

-- each secret has N numbers
pub record OfDegree (N : ℕ) (secrets : Secrets) : Type 0 where
  pub scalar : All (λ s. length s ≡ N) (option_to_list secrets.scalar)
  pub rows : All (λ s. length s ≡ N) secrets.rows

-- what the rows of every ciphertext keep: there are at least two, fewer than 2^32, and all have one length
pub record IsCipher (rows : Cipher) : Type 0 where
  pub some : 2 ≤ length rows
  pub few : length rows < 2 ^ 32
  pub same : All (λ a. length a ≡ length (row_of rows 0)) rows
