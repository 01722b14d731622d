-- The objects of the scheme as plain lists. What isn't there reads as the empty list.
use Rattle.std.specs.Prelude.{ℕ, List, [], slice_index_or}

-- a polynomial: its N coefficients, each a residue below q
abbrev pub Poly : Type 0
Poly = List ℕ

-- a ciphertext: its rows c_0 to c_m
abbrev pub Cipher : Type 0
Cipher = List Poly

-- a GSW ciphertext: its columns G_(r,k), by r from 0 to m, within r by k below t
abbrev pub Gsw : Type 0
Gsw = List Cipher

-- a record's matrix: its n times n entries, row by row
abbrev pub Matrix : Type 0
Matrix = List Poly

-- a polynomial of a list
abbrev pub poly_of : List Poly → ℕ → Poly
poly_of polys i = slice_index_or polys i []

-- row i of a ciphertext
abbrev pub row_of : Cipher → ℕ → Poly
row_of cipher i = slice_index_or cipher i []

-- a ciphertext of a list
abbrev pub cipher_at : List Cipher → ℕ → Cipher
cipher_at ciphers i = slice_index_or ciphers i []

-- a GSW ciphertext of a list
abbrev pub gsw_at : List Gsw → ℕ → Gsw
gsw_at gsws l = slice_index_or gsws l []

-- the matrix of record i
abbrev pub matrix_at : List Matrix → ℕ → Matrix
matrix_at matrices i = slice_index_or matrices i []

-- entry e of the matrix of record i
abbrev pub entry_at : List Matrix → ℕ → ℕ → Poly
entry_at matrices i e = slice_index_or (slice_index_or matrices i []) e []
