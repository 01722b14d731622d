-- The rows of an encryption, one after the other.
use Rattle.std.proofs.Common.{◌≡◌, ℕ, zero, suc, ◌+◌, ◌*◌, ◌<◌, ◌≤◌, Bool, true, false, List, [], ◌∷◌, ◌++◌, length, get_or, take, replicate, All, refl, sym, ◌∙◌, ap, arith, add-one, append_assoc, take_all}
use Rattle.std.proofs.lemmas.List.{length-map, get_or-map}
use Rattle.negacyclic.specs.Ring.{ring_add, ring_mul}
use Rattle.negacyclic.proofs.Lengths.{product_from_zeros}
use Rattle.negacyclic.proofs.Ring.{ring_add_comm}
use Rattle.spiral_model.specs.Sets.{q}
use Rattle.ring_poly.proofs.Modulus.{q_some}
use Rattle.spiral_model.specs.Sampling.{error_poly, secret_poly}
use Rattle.spiral_model.specs.Ciphertexts.{encrypted_row, encrypted_rows}
use Rattle.regev_code.proofs.Samples.{length-secret_poly}
use Rattle.regev_code.specs.Seen.{Secrets}
use Rattle.regev_code.specs.Shapes.{OfDegree, polynomial_of, numbers_under, under}

-- row 0 alone
pub rows_none : (N : ℕ) (words : List ℕ) (start : ℕ) (a : List ℕ) → encrypted_rows N words start a [] [] ≡ []
unfolding encrypted_rows
rows_none N words start a = refl

-- one more row
row_more : (N : ℕ) (words : List ℕ) (start : ℕ) (a : List ℕ) (secrets messages : List (List ℕ)) (i : ℕ) → i < length secrets → i < length messages
    → encrypted_rows N words start a (take (suc i) secrets) (take (suc i) messages)
    ≡ encrypted_rows N words start a (take i secrets) (take i messages) ++ encrypted_row N a (get_or secrets i []) (error_poly N words (start + i * N)) (get_or messages i []) ∷ []
unfolding encrypted_rows
row_more N words start a [] messages i h g = absurd (omega arith)
row_more N words start a (s ∷ secrets) [] i h g = absurd (omega arith)
row_more N words start a (s ∷ secrets) (m ∷ messages) zero h g =
    let place : start ≡ start + 0 * N = omega arith in
    ap (λ (p : ℕ). encrypted_row N a s (error_poly N words p) m ∷ []) place
row_more N words start a (s ∷ secrets) (m ∷ messages) (suc i) h g =
    let place : start + N + i * N ≡ start + suc i * N = omega arith in
    ap (λ (rows : List (List ℕ)). encrypted_row N a s (error_poly N words start) m ∷ rows)
    (row_more N words (start + N) a secrets messages i (omega arith) (omega arith)
    ∙ ap (λ (p : ℕ). encrypted_rows N words (start + N) a (take i secrets) (take i messages) ++ encrypted_row N a (get_or secrets i []) (error_poly N words p) (get_or messages i []) ∷ []) place)

pub row_read : (N D E : ℕ) (words : List ℕ) (start : ℕ) (a mask error : List ℕ) (secrets messages : List (List ℕ)) (i : ℕ) (key message row : List ℕ) → D ≡ N → E ≡ N
    → mask ≡ a → error ≡ error_poly E words (start + (2 + i) * D) → key ≡ get_or secrets i [] → message ≡ get_or messages i [] → row ≡ encrypted_row N mask key error message
    → row ≡ encrypted_row N a (get_or secrets i []) (error_poly N words (start + 2 * N + i * N)) (get_or messages i [])
row_read N D E words start a mask error secrets messages i key message row degree count seen drawn key_is message_is worked =
    let place : start + (2 + i) * N ≡ start + 2 * N + i * N = omega arith in
    let error_is : error ≡ error_poly N words (start + 2 * N + i * N) =
    drawn
    ∙ ap (λ (n : ℕ). error_poly n words (start + (2 + i) * D)) count
    ∙ ap (λ (d : ℕ). error_poly N words (start + (2 + i) * d)) degree
    ∙ ap (λ (p : ℕ). error_poly N words p) place in
    cc

pub rows_more : (N : ℕ) (words : List ℕ) (start : ℕ) (a : List ℕ) (secrets messages : List (List ℕ)) (i : ℕ) (row : List ℕ) (front old new : List (List ℕ))
    → i < length secrets → i < length messages
    → row ≡ encrypted_row N a (get_or secrets i []) (error_poly N words (start + i * N)) (get_or messages i [])
    → old ≡ front ++ encrypted_rows N words start a (take i secrets) (take i messages) → new ≡ old ++ row ∷ []
    → new ≡ front ++ encrypted_rows N words start a (take (i + 1) secrets) (take (i + 1) messages)
rows_more N words start a secrets messages i row front old new h g is so_far pushed =
    rw add-one
    (pushed
    ∙ ap (λ (rows : List (List ℕ)). rows ++ row ∷ []) so_far
    ∙ append_assoc front (encrypted_rows N words start a (take i secrets) (take i messages)) (row ∷ [])
    ∙ ap (λ (rows : List (List ℕ)). front ++ rows)
    (ap (λ (b : List ℕ). encrypted_rows N words start a (take i secrets) (take i messages) ++ b ∷ []) is
    ∙ sym (row_more N words start a secrets messages i h g)))

-- all rows
pub rows_all : (N : ℕ) (words : List ℕ) (start : ℕ) (a : List ℕ) (secrets messages : List (List ℕ)) (i : ℕ) → length secrets ≤ i → length messages ≤ i
    → encrypted_rows N words start a (take i secrets) (take i messages) ≡ encrypted_rows N words start a secrets messages
rows_all N words start a secrets messages i h g = rw (take_all i secrets h, take_all i messages g) refl

-- the product of a secret and the uniform part, added to a row
pub product_added : (N L M : ℕ) (a uniform secret form zeros sum poly row new : List ℕ) → L ≡ N → M ≡ N → uniform ≡ a → form ≡ secret → zeros ≡ replicate L 0
    → sum ≡ ring_add q N zeros (ring_mul q N form uniform) → poly ≡ sum → new ≡ ring_add q M row poly → new ≡ ring_add q N row (ring_mul q N secret a)
product_added N L M a uniform secret form zeros sum poly row new el em seen same none summed copied added =
    let product = product_from_zeros q N secret a q_some in
    let all : zeros ≡ replicate N 0 = none ∙ ap (λ (n : ℕ). replicate {A = ℕ} n 0) el in cc

-- A row, from its error, its product and its message in this order.
row_is : (N : ℕ) (a secret error message : List ℕ) → ring_add q N (ring_add q N error (ring_mul q N secret a)) message ≡ encrypted_row N a secret error message
unfolding encrypted_row
row_is N a secret error message = ap (λ (b : List ℕ). ring_add q N b message) (ring_add_comm q N error (ring_mul q N secret a))

pub row_worked : (N M : ℕ) (a secret error row message half new : List ℕ) → M ≡ N → row ≡ error → half ≡ ring_add q N row (ring_mul q N secret a)
    → new ≡ ring_add q M half message → new ≡ encrypted_row N a secret error message
row_worked N M a secret error row message half new em copied masked added = let whole = row_is N a secret error message in cc

-- The numbers of a secret under which a ciphertext is, as a polynomial.
under_numbers : (N : ℕ) (secrets : Secrets) (scalar : Bool) → OfDegree N secrets → All (λ s. length s ≡ N) (numbers_under secrets scalar)
under_numbers N secrets true is = is.scalar
under_numbers N secrets false is = is.rows

pub under_at : (N : ℕ) (secrets : Secrets) (scalar : Bool) (i : ℕ) (key : List ℕ) → OfDegree N secrets → i < length (numbers_under secrets scalar)
    → key ≡ polynomial_of (get_or (numbers_under secrets scalar) i []) → key ≡ get_or (under N secrets scalar) i []
under_at N secrets scalar i key is within read =
    let numbers = get_or (numbers_under secrets scalar) i [] in
    let count : length numbers ≡ N = under_numbers N secrets scalar is i [] within in
    read ∙ ap (λ (n : ℕ). secret_poly n numbers) count ∙ sym (get_or-map (secret_poly N) (numbers_under secrets scalar) i [] [] within)

pub under-length : (N : ℕ) (secrets : Secrets) (scalar : Bool) (i : ℕ) (key : List ℕ) → OfDegree N secrets → i < length (numbers_under secrets scalar)
    → key ≡ polynomial_of (get_or (numbers_under secrets scalar) i []) → length key ≡ N
under-length N secrets scalar i key is within read =
    let numbers = get_or (numbers_under secrets scalar) i [] in
    ap length read ∙ length-secret_poly (length numbers) numbers ∙ under_numbers N secrets scalar is i [] within

pub under-count : (N : ℕ) (secrets : Secrets) (scalar : Bool) → length (under N secrets scalar) ≡ length (numbers_under secrets scalar)
under-count N secrets scalar = length-map (numbers_under secrets scalar) (secret_poly N)
