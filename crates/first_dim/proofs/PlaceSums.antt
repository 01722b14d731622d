-- Ciphertexts to which products are added one after the other, row by row.
use Rattle.std.proofs.Common.{◌≡◌, ℕ, ◌+◌, ◌*◌, ◌^◌, ◌<◌, List, [], length, get_or, replicate, map, Bool, true, false, if◌then◌else◌, refl, sym, ◌∙◌, ap, subst, arith}
use Rattle.std.specs.List.{range_with_len}
use Rattle.std.proofs.lemmas.Nat.{mul-add-lt, pow-add}
use Rattle.std.proofs.lemmas.List.{get_or-replicate, length-replicate, get_or_read}
use Rattle.std.proofs.lemmas.List.Elements.{All-replicate}
use Rattle.std.proofs.lemmas.List.FromFn.{fill_by_all, length-map-range_with_len}
use Rattle.negacyclic.specs.Ring.{ring_add, ring_mul, ring_total}
use Rattle.negacyclic.proofs.Lists.{same_range, all_range, changed_each}
use Rattle.negacyclic.proofs.Lengths.{length-ring_add, length-ring_total, ring_add-below, ring_total-below, zeros_below, added_to_zeros, ring_add_total-none, ring_add_total-more}
use Rattle.negacyclic.proofs.Ring.{ring_mul_comm}
use Rattle.spiral_sets.specs.declared.param_set.ParamSet.{ParamSet}
use Rattle.spiral_model.specs.Sets.{q, rows, columns, max_records}
use Rattle.spiral_model.specs.Words.{Poly, Cipher, Matrix, poly_of, row_of, cipher_at, matrix_at}
use Rattle.spiral_model.specs.Answering.{place_product, first_row, first_product}
use Rattle.ring_poly.specs.Polynomials.{AreResidues}
use Rattle.ring_poly.proofs.Modulus.{q_some}
use Rattle.regev_code.specs.Products.{HasShape}
use Rattle.first_dim.specs.Preparations.{IsMatrix, AreMatrices, AreFirsts, IsSum, added}

-- ---- ciphertexts with something added

-- they are sums again
pub added_is_sum : (N count : ℕ) (cipher : Cipher) (f : ℕ → Poly) → length cipher ≡ count → IsSum N count (added N cipher f)
added_is_sum N count cipher f e =
    let row : ℕ → Poly = λ i. ring_add q N (row_of cipher i) (f i) in
    record {
      shape = record {
        rows_count = length-map-range_with_len row 0 (length cipher) ∙ e;
        degree = all_range (λ (a : Poly). length a ≡ N) row (length cipher) (λ i h. length-ring_add q N (row_of cipher i) (f i));
      };
      residues = all_range AreResidues row (length cipher) (λ i h. ring_add-below q N (row_of cipher i) (f i) q_some);
    }

-- To each row the first `done` of the polynomials f were added.
pub record HasAdded (N count : ℕ) (old : Cipher) (f : ℕ → ℕ → Poly) (done : ℕ) (now : Cipher) : Type 0 where
  pub value : now ≡ added N old (λ row. ring_total q N done (f row))
  pub is_sum : IsSum N count now

-- none of them
pub added_none : (N count : ℕ) (old : Cipher) (f : ℕ → ℕ → Poly) → IsSum N count old → HasAdded N count old f 0 old
added_none N count old f is = record {
  value = fill_by_all (λ row. ring_add q N (row_of old row) (ring_total q N 0 (f row))) old (length old) [] refl
      (λ row h. sym (ring_add_total-none q N (row_of old row) (f row) q_some (is.shape.degree row [] h) (is.residues row [] h)));
  is_sum = is;
}

-- one more
pub added_more : (N count : ℕ) (old : Cipher) (f : ℕ → ℕ → Poly) (done : ℕ) (before now : Cipher) (g : ℕ → Poly)
    → IsSum N count old → HasAdded N count old f done before → now ≡ added N before g → ((row : ℕ) → row < count → g row ≡ f row done)
    → HasAdded N count old f (done + 1) now
added_more N count old f done before now g first so_far is same =
    record {
      value = changed_each (λ row. ring_add q N (row_of old row) (ring_total q N done (f row))) (λ row. ring_add q N (row_of old row) (ring_total q N (done + 1) (f row)))
          (λ row a. ring_add q N a (g row)) (length old) [] before now so_far.value is
          (λ row h.
          ap (ring_add q N (ring_add q N (row_of old row) (ring_total q N done (f row)))) (same row (omega (arith, first.shape.rows_count)))
          ∙ ring_add_total-more q N done (row_of old row) (f row) q_some);
      is_sum = subst (IsSum N count) (sym is) (added_is_sum N count before g so_far.is_sum.shape.rows_count);
    }

-- one more, by the product of ciphertext `key` and a
pub product_more : (N D count : ℕ) (old : Cipher) (f : ℕ → ℕ → Poly) (done : ℕ) (before now key : Cipher) (a : Poly) → D ≡ N → IsSum N count old
    → HasAdded N count old f done before → now ≡ added D before (λ row. ring_mul q D a (row_of key row)) → ((row : ℕ) → f row done ≡ ring_mul q N (row_of key row) a)
    → HasAdded N count old f (done + 1) now
product_more N D count old f done before now key a degree first so_far is same =
    added_more N count old f done before now (λ row. ring_mul q N a (row_of key row)) first so_far
    (is ∙ ap (λ (d : ℕ). added d before (λ row. ring_mul q d a (row_of key row))) degree)
    (λ row h. ring_mul_comm q N a (row_of key row) ∙ sym (same row))

-- ---- ciphertexts of zeros

-- they are sums
pub zeros_are_sum : (N count : ℕ) → IsSum N count (replicate count (replicate {A = ℕ} N 0))
zeros_are_sum N count = record {
  shape = record {
    rows_count = length-replicate count (replicate {A = ℕ} N 0);
    degree = All-replicate (λ (a : Poly). length a ≡ N) count (replicate {A = ℕ} N 0) (length-replicate {A = ℕ} N 0);
  };
  residues = All-replicate AreResidues count (replicate {A = ℕ} N 0) (zeros_below q N q_some);
}

-- what was added to them alone stays
pub added_from_zeros : (N count done : ℕ) (f : ℕ → ℕ → Poly)
    → added N (replicate count (replicate {A = ℕ} N 0)) (λ row. ring_total q N done (f row)) ≡ map (λ row. ring_total q N done (f row)) (range_with_len 0 count)
added_from_zeros N count done f =
    let zeros : Cipher = replicate count (replicate {A = ℕ} N 0) in
    ap (λ (n : ℕ). map (λ row. ring_add q N (row_of zeros row) (ring_total q N done (f row))) (range_with_len 0 n)) (length-replicate count (replicate {A = ℕ} N 0))
    ∙ same_range (λ row. ring_add q N (row_of zeros row) (ring_total q N done (f row))) (λ row. ring_total q N done (f row)) count
    (λ row h.
    ap (λ (a : Poly). ring_add q N a (ring_total q N done (f row))) (get_or-replicate count row (replicate {A = ℕ} N 0) [] h)
    ∙ added_to_zeros q N (ring_total q N done (f row)) q_some (length-ring_total q N done (f row)) (ring_total-below q N done (f row) q_some))

-- ---- the terms of a place

-- row `row` of ciphertext r of place i times entry (r, c)
abbrev pub place_term : ParamSet → List Cipher → Matrix → ℕ → ℕ → ℕ → ℕ → Poly
place_term set firsts matrix i c row r =
    ring_mul q set.degree (row_of (cipher_at firsts (i * rows set + r)) row) (poly_of matrix (r * set.n + c))

-- entry (r, c) stands in the matrix
entry_place : (pack : Bool) (n r c : ℕ) → r < (if pack then 1 else n) → c < (if pack then n * n else n) → r * n + c < n * n
entry_place true n r c row column =
    let none : r ≡ 0 = omega arith in
    let first : r * n ≡ 0 * n = ap (λ (k : ℕ). k * n) none in
    omega arith
entry_place false n r c row column = mul-add-lt r n c n row column

pub entry_within : (set : ParamSet) (matrix : Matrix) (r c : ℕ) → IsMatrix set matrix → r < rows set → c < columns set → r * set.n + c < length matrix
entry_within set matrix r c is row column = let within = entry_place set.pack set.n r c row column in omega (arith, is.count)

-- ciphertext r of place i is one of the first dimension
pub first_within : (set : ParamSet) (firsts : List Cipher) (i r : ℕ) → AreFirsts set firsts → r < rows set → i < 2 ^ set.nu1 → i * rows set + r < length firsts
first_within set firsts i r are row place = let within = mul-add-lt i (rows set) r (2 ^ set.nu1) place row in omega (arith, are.count)

-- a term from what was read
pub term_read : (set : ParamSet) (firsts : List Cipher) (matrix : Matrix) (i c r m : ℕ) (key : Cipher) (a : Poly) (row : ℕ)
    → IsMatrix set matrix → AreFirsts set firsts → i < 2 ^ set.nu1 → c < columns set → m ≡ rows set → r < m
    → key ≡ get_or firsts (i * m + r) key → a ≡ get_or matrix (r * set.n + c) a
    → place_term set firsts matrix i c row r ≡ ring_mul q set.degree (row_of key row) a
term_read set firsts matrix i c r m key a row is are place column count below key_read a_read =
    let at_place : i * m + r ≡ i * rows set + r = ap (λ (k : ℕ). i * k + r) count in
    let within : i * rows set + r < length firsts = first_within set firsts i r are (omega arith) place in
    let key_is : key ≡ get_or firsts (i * rows set + r) [] =
    get_or_read firsts (i * m + r) key (omega arith) key_read [] ∙ ap (λ (k : ℕ). get_or firsts k []) at_place in
    let a_is : a ≡ get_or matrix (r * set.n + c) [] =
    get_or_read matrix (r * set.n + c) a (entry_within set matrix r c is (omega arith) column) a_read [] in
    ap (λ (d : Cipher). ring_mul q set.degree (row_of d row) (get_or matrix (r * set.n + c) [])) (sym key_is)
    ∙ ap (ring_mul q set.degree (row_of key row)) (sym a_is)

-- their sum, once all were added
pub place_done : (set : ParamSet) (firsts : List Cipher) (matrix : Matrix) (i c count done : ℕ) (old now : Cipher) → done ≡ rows set
    → HasAdded set.degree count old (place_term set firsts matrix i c) done now
    → now ≡ added set.degree old (place_product set firsts matrix i c)
unfolding place_product
place_done set firsts matrix i c count done old now e so_far =
    so_far.value ∙ ap (λ (m : ℕ). added set.degree old (λ row. ring_total q set.degree m (λ r. place_term set firsts matrix i c row r))) e

-- ---- the places of a folded place

-- the matrix of record j 2^nu1 + i is there
pub matrix_within : (set : ParamSet) (matrices : List Matrix) (j i places : ℕ) → AreMatrices set matrices → j < 2 ^ set.nu2 → i < places → places ≡ 2 ^ set.nu1
    → j * places + i < length matrices
matrix_within set matrices j i places are folded place count =
    let within = mul-add-lt j places i (2 ^ set.nu2) folded place in
    let size : places * 2 ^ set.nu2 ≡ max_records set = ap (λ (k : ℕ). k * 2 ^ set.nu2) count ∙ sym (pow-add 2 set.nu1 set.nu2) in
    omega (arith, are.count)

-- what a place adds to row `row`
abbrev pub place_of : ParamSet → List Matrix → List Cipher → ℕ → ℕ → ℕ → ℕ → Poly
place_of set matrices firsts j c row i = place_product set firsts (matrix_at matrices (j * 2 ^ set.nu1 + i)) i c row

-- one place more
pub place_more : (set : ParamSet) (matrices : List Matrix) (firsts : List Cipher) (j c count i places : ℕ) (old before now : Cipher) (entries matrix : Matrix)
    → IsSum set.degree count old
    → AreMatrices set matrices → j < 2 ^ set.nu2 → i < places → places ≡ 2 ^ set.nu1 → entries ≡ matrix → matrix ≡ get_or matrices (j * places + i) matrix
    → HasAdded set.degree count old (place_of set matrices firsts j c) i before
    → now ≡ added set.degree before (place_product set firsts entries i c)
    → HasAdded set.degree count old (place_of set matrices firsts j c) (i + 1) now
place_more set matrices firsts j c count i places old before now entries matrix first are folded place places_is same read so_far is =
    let entries_are : entries ≡ get_or matrices (j * 2 ^ set.nu1 + i) [] =
    same
    ∙ get_or_read matrices (j * places + i) matrix (matrix_within set matrices j i places are folded place places_is) read []
    ∙ ap (λ (k : ℕ). get_or matrices (j * k + i) []) places_is in
    added_more set.degree count old (place_of set matrices firsts j c) i before now (place_product set firsts entries i c) first so_far is
    (λ row h. ap (λ (m : Matrix). place_product set firsts m i c row) entries_are)

-- all of them
pub places_done : (set : ParamSet) (matrices : List Matrix) (firsts : List Cipher) (j c count done : ℕ) (old now : Cipher) → done ≡ 2 ^ set.nu1
    → HasAdded set.degree count old (place_of set matrices firsts j c) done now
    → now ≡ added set.degree old (first_row set matrices firsts j c)
unfolding first_row
places_done set matrices firsts j c count done old now e so_far =
    so_far.value ∙ ap (λ (m : ℕ). added set.degree old (λ row. ring_total q set.degree m (place_of set matrices firsts j c row))) e

-- ---- a column from a cleared ciphertext

pub cleared : (N count : ℕ) (old now : Cipher) → 0 < count → HasShape N count old → now ≡ replicate (length old) (replicate {A = ℕ} (length (row_of old 0)) 0)
    → now ≡ replicate count (replicate {A = ℕ} N 0)
cleared N count old now some shape is =
    let degree : length (row_of old 0) ≡ N = shape.degree 0 [] (omega (arith, shape.rows_count)) in
    is
    ∙ ap (λ (n : ℕ). replicate n (replicate {A = ℕ} (length (row_of old 0)) 0)) shape.rows_count
    ∙ ap (λ (n : ℕ). replicate count (replicate {A = ℕ} n 0)) degree

pub cleared_is_sum : (N count : ℕ) (now : Cipher) → now ≡ replicate count (replicate {A = ℕ} N 0) → IsSum N count now
cleared_is_sum N count now is = subst (IsSum N count) (sym is) (zeros_are_sum N count)

pub column_done : (set : ParamSet) (matrices : List Matrix) (firsts : List Cipher) (j c : ℕ) (zeros now out : Cipher) → zeros ≡ replicate (rows set + 1) (replicate {A = ℕ} set.degree 0)
    → now ≡ added set.degree zeros (first_row set matrices firsts j c) → out ≡ now → out ≡ first_product set matrices firsts j c
unfolding first_row place_product first_product
column_done set matrices firsts j c zeros now out none is copied =
    copied ∙ is
    ∙ ap (λ (z : Cipher). added set.degree z (first_row set matrices firsts j c)) none
    ∙ added_from_zeros set.degree (rows set + 1) (2 ^ set.nu1) (place_of set matrices firsts j c)
