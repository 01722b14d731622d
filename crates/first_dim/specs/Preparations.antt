-- A database as the first dimension reads it, and what its parts keep.
use Rattle.std.specs.Prelude.{ℕ, List, ◌≡◌, ◌+◌, length, map, All}
use Rattle.std.specs.List.{range_with_len}
use Rattle.negacyclic.specs.Ring.{ring_add}
use Rattle.spiral_sets.specs.declared.param_set.ParamSet.{ParamSet}
use Rattle.spiral_model.specs.Sets.{IsSet, q, rows, entries, max_records}
use Rattle.spiral_model.specs.Counts.{firsts_count}
use Rattle.spiral_model.specs.Words.{Poly, Cipher, Matrix, row_of}
use Rattle.ring_poly.specs.Polynomials.{AreResidues}
use Rattle.regev_code.specs.Products.{HasShape}

-- The matrices of the records of a database: of each the list of its entries, row by row.
pub record PreparedRecords : Type 0 where
  pub set : ParamSet
  pub matrices : List Matrix

-- a record's matrix has n times n entries, each of N coefficients
pub record IsMatrix (set : ParamSet) (matrix : Matrix) : Type 0 where
  pub count : length matrix ≡ entries set
  pub degree : All (λ a. length a ≡ set.degree) matrix

-- there is a matrix for each place of the database
pub record AreMatrices (set : ParamSet) (matrices : List Matrix) : Type 0 where
  pub known : IsSet set
  pub count : length matrices ≡ max_records set
  pub each : All (λ matrix. IsMatrix set matrix) matrices

-- the ciphertexts of the first dimension, place by place
pub record AreFirsts (set : ParamSet) (firsts : List Cipher) : Type 0 where
  pub count : length firsts ≡ firsts_count set
  pub shape : All (λ c. HasShape set.degree (rows set + 1) c) firsts

-- a ciphertext of so many rows of N residues
pub record IsSum (N count : ℕ) (cipher : Cipher) : Type 0 where
  pub shape : HasShape N count cipher
  pub residues : All (λ a. AreResidues a) cipher

-- a ciphertext with f added, row by row
abbrev pub added : ℕ → Cipher → (ℕ → Poly) → Cipher
added N cipher f = map (λ row. ring_add q N (row_of cipher row) (f row)) (range_with_len 0 (length cipher))
