-- Digit sums: the product forms of all digits, a row's sum over them, and all rows.
use Rattle.std.proofs.Common.{◌≡◌, ℕ, ◌+◌, ◌*◌, ◌<◌, ◌≤◌, List, [], length, take, drop, set, get_or, All, map, replicate, refl, sym, ◌∙◌, ap, ap₂, subst, arith}
use Rattle.std.specs.List.{range_with_len}
use Rattle.std.proofs.lemmas.List.Elements.{All-same, All-map}
use Rattle.std.proofs.lemmas.List.FromFn.{length-map-range_with_len}
use Rattle.negacyclic.specs.Digits.{digit_poly}
use Rattle.negacyclic.specs.Ring.{ring_add, ring_mul, ring_total}
use Rattle.negacyclic.proofs.Filled.{Filled, FilledWith, filled_none, filled_with_none, filled_more, filled_with_more, filled_all, filled_with_all}
use Rattle.negacyclic.proofs.Ring.{ring_total_none, ring_total_more}
use Rattle.negacyclic.proofs.Lengths.{zeros_ring, length-ring_add, length-ring_total, ring_total-same}
use Rattle.negacyclic.proofs.Lists.{same_range, at_range}
use Rattle.spiral_model.specs.Sets.{q, digit_count}
use Rattle.spiral_model.specs.Words.{Poly, Cipher, row_of, cipher_at}
use Rattle.spiral_model.specs.Gadgets.{cipher_add, digit_sum}
use Rattle.ring_poly.proofs.Modulus.{q_some}
use Rattle.ring_poly.specs.Sums.{ProductSum}
use Rattle.gadget_digits.proofs.DigitRows.{first_rows, digit_row_read}
use Rattle.regev_code.specs.Products.{HasShape}
use Rattle.regev_code.specs.RowSums.{row_sum}

-- ---- the product forms of the digits

-- digit k, cut out of the numbers of all digits
abbrev pub digit_cut : ℕ → List ℕ → ℕ → Poly
digit_cut N digits k = take N (drop (k * N) digits)

-- what the loop over the digits keeps
pub record LoadsDigits (N : ℕ) (digits : List ℕ) (old : List Poly) (k : ℕ) (forms : List Poly) (poly : Poly) : Type 0 where
  pub filled : FilledWith (λ a. length a ≡ N) (digit_cut N digits) old k forms
  pub degrees : All (λ a. length a ≡ N) old
  pub poly_degree : length poly ≡ N

pub loads_none : (N : ℕ) (digits : List ℕ) (old : List Poly) (poly : Poly) → All (λ a. length a ≡ N) old → length poly ≡ N → LoadsDigits N digits old 0 old poly
loads_none N digits old poly degrees degree =
    record { filled = filled_with_none (λ (a : Poly). length a ≡ N) (digit_cut N digits) old; degrees = degrees; poly_degree = degree }

-- one digit more
pub loads_more : (N : ℕ) (digits : List ℕ) (old : List Poly) (k : ℕ) (forms : List Poly) (poly poly_new form : Poly) → k < length forms → LoadsDigits N digits old k forms poly
    → form ≡ digit_cut N digits k → length form ≡ N → length poly_new ≡ N → LoadsDigits N digits old (k + 1) (set forms k form) poly_new
loads_more N digits old k forms poly poly_new form within so_far is degree poly_degree =
    record {
      filled = filled_with_more (λ (a : Poly). length a ≡ N) (digit_cut N digits) old k forms form within so_far.filled is degree;
      degrees = so_far.degrees;
      poly_degree = poly_degree;
    }

-- where the next one stands
pub digit_degree : (N : ℕ) (digits : List ℕ) (old : List Poly) (k : ℕ) (forms : List Poly) (poly : Poly) (d : Poly) → k < length forms → LoadsDigits N digits old k forms poly
    → length (get_or forms k d) ≡ N
digit_degree N digits old k forms poly d within so_far =
    let filled = so_far.filled.filled in
    ap length (filled.rest k d (omega arith)) ∙ so_far.degrees k d (omega (arith, filled.count))

-- ---- one row of the sum

-- the sum over the first digits, and how many they are
abbrev partial_sum : ℕ → List Poly → List Cipher → ℕ → ℕ → ProductSum
partial_sum N forms key i k = record { value = ring_total q N k (λ j. ring_mul q N (row_of forms j) (row_of (cipher_at key j) i)); count = k }

pub record SumsRow (N : ℕ) (forms : List Poly) (key : List Cipher) (i k : ℕ) (sum : ProductSum) : Type 0 where
  pub so_far : sum ≡ partial_sum N forms key i k

-- before the first digit
pub sums_none : (N : ℕ) (forms : List Poly) (key : List Cipher) (i n : ℕ) (sum : ProductSum) → n ≡ N → sum ≡ record { value = replicate n 0; count = 0 } → SumsRow N forms key i 0 sum
sums_none N forms key i n sum degree cleared = record {
  so_far =
      cleared
      ∙ ap (λ (v : List ℕ). with_value v 0) (ap (λ (m : ℕ). replicate m 0) degree ∙ zeros_ring q N q_some ∙ sym (ring_total_none q N (λ j. ring_mul q N (row_of forms j) (row_of (cipher_at key j) i))));
}
  where
    with_value : List ℕ → ℕ → ProductSum
    with_value v k = record { value = v; count = k }

-- its degree
pub sums-degree : (N : ℕ) (forms : List Poly) (key : List Cipher) (i k : ℕ) (sum : ProductSum) → SumsRow N forms key i k sum → length sum.value ≡ N
sums-degree N forms key i k sum is =
    ap (λ (s : ProductSum). length s.value) is.so_far ∙ length-ring_total q N k (λ j. ring_mul q N (row_of forms j) (row_of (cipher_at key j) i))

-- one digit more
pub sums_more : (N : ℕ) (forms : List Poly) (key : List Cipher) (i k n : ℕ) (sum new : ProductSum) (a b : Poly) → SumsRow N forms key i k sum → n ≡ N → a ≡ row_of forms k
    → b ≡ row_of (cipher_at key k) i → new ≡ record { value = ring_add q n sum.value (ring_mul q n a b); count = sum.count + 1 } → SumsRow N forms key i (k + 1) new
sums_more N forms key i k n sum new a b is degree is_a is_b worked =
    let product : ℕ → Poly = λ j. ring_mul q N (row_of forms j) (row_of (cipher_at key j) i) in
    let value : ring_add q n sum.value (ring_mul q n a b) ≡ ring_total q N (k + 1) product =
    ap (λ (m : ℕ). ring_add q m sum.value (ring_mul q m a b)) degree
    ∙ ap₂ (λ (c d : Poly). ring_add q N sum.value (ring_mul q N c d)) is_a is_b
    ∙ ap (λ (s : ProductSum). ring_add q N s.value (product k)) is.so_far
    ∙ sym (ring_total_more q N q_some k product) in
    record { so_far = worked ∙ ap₂ with_value value (ap (λ (s : ProductSum). s.count + 1) is.so_far) }
  where
    with_value : List ℕ → ℕ → ProductSum
    with_value v m = record { value = v; count = m }

-- all digits
pub sums_all : (N : ℕ) (forms : List Poly) (key : List Cipher) (i k : ℕ) (sum : ProductSum) → k ≡ length forms → SumsRow N forms key i k sum
    → sum ≡ record { value = row_sum N forms key i; count = length forms }
sums_all N forms key i k sum all is = is.so_far ∙ ap (partial_sum N forms key i) all

-- ---- all rows

-- what the loop over the rows keeps
pub record AddsRows (N : ℕ) (forms : List Poly) (key : List Cipher) (old : Cipher) (i : ℕ) (rows : Cipher) (sum : ProductSum) : Type 0 where
  pub filled : Filled (λ j. ring_add q N (row_of old j) (row_sum N forms key j)) old i rows
  pub sum_degree : length sum.value ≡ N

pub adds_none : (N : ℕ) (forms : List Poly) (key : List Cipher) (old : Cipher) (sum : ProductSum) → length sum.value ≡ N → AddsRows N forms key old 0 old sum
adds_none N forms key old sum degree = record { filled = filled_none (λ j. ring_add q N (row_of old j) (row_sum N forms key j)) old; sum_degree = degree }

-- one row more, which the code read as it stands
pub adds_more : (N : ℕ) (forms : List Poly) (key : List Cipher) (old : Cipher) (i n : ℕ) (rows : Cipher) (sum sum_new : ProductSum) (row new : Poly) → i < length rows
    → AddsRows N forms key old i rows sum → sum_new ≡ record { value = row_sum N forms key i; count = length forms } → row ≡ row_of rows i → n ≡ N
    → new ≡ ring_add q n row sum_new.value → AddsRows N forms key old (i + 1) (set rows i new) sum_new
adds_more N forms key old i n rows sum sum_new row new within so_far summed read degree worked =
    let value : sum_new.value ≡ row_sum N forms key i = ap (λ (s : ProductSum). s.value) summed in
    record {
      filled =
          filled_more (λ j. ring_add q N (row_of old j) (row_sum N forms key j)) old i rows new within so_far.filled
          (worked ∙ ap (λ (m : ℕ). ring_add q m row sum_new.value) degree ∙ ap₂ (ring_add q N) (read ∙ so_far.filled.rest i [] (omega arith)) value);
      sum_degree = ap length value ∙ length-ring_total q N (length forms) (λ k. ring_mul q N (row_of forms k) (row_of (cipher_at key k) i));
    }

-- the next row's degree
pub row-degree : (N : ℕ) (forms : List Poly) (key : List Cipher) (old : Cipher) (i : ℕ) (rows : Cipher) (sum : ProductSum) → i < length rows → All (λ a. length a ≡ N) old
    → AddsRows N forms key old i rows sum → length (row_of rows i) ≡ N
row-degree N forms key old i rows sum within degrees so_far =
    ap length (so_far.filled.rest i [] (omega arith)) ∙ degrees i [] (omega (arith, so_far.filled.count))

-- rows with a sum added have their degree
pub sums-degrees : (N : ℕ) (forms : List Poly) (key : List Cipher) (old : Cipher) (n : ℕ)
    → All (λ a. length a ≡ N) (map (λ i. ring_add q N (row_of old i) (row_sum N forms key i)) (range_with_len 0 n))
sums-degrees N forms key old n =
    All-map (λ (a : Poly). length a ≡ N) (λ i. ring_add q N (row_of old i) (row_sum N forms key i)) (range_with_len 0 n) (λ k d h. length-ring_add q N _ _)

-- ---- the whole

-- Rows to which the sums over the forms of a polynomial's digits are added are those to which the digit sum is added.
pub digit_sums_added : (N w t : ℕ) (x numbers digits : List ℕ) (forms : List Poly) (key : List Cipher) (old new : Cipher) → length x ≡ N → t ≡ digit_count w → numbers ≡ x
    → digits ≡ first_rows w numbers (digit_count w) → forms ≡ map (digit_cut N digits) (range_with_len 0 t)
    → new ≡ map (λ i. ring_add q N (row_of old i) (row_sum N forms key i)) (range_with_len 0 (length old))
    → new ≡ cipher_add N old (map (λ i. digit_sum N w x (λ k. cipher_at key k) i) (range_with_len 0 (length old)))
unfolding cipher_add digit_sum
digit_sums_added N w t x numbers digits forms key old new size count copied all loaded worked =
    let many : length forms ≡ digit_count w = ap length loaded ∙ length-map-range_with_len (digit_cut N digits) 0 t ∙ count in
    let sums : ℕ → Poly = λ i. ring_total q N (digit_count w) (λ k. ring_mul q N (digit_poly w k x) (row_of (cipher_at key k) i)) in
    let form : (k : ℕ) → k < digit_count w → row_of forms k ≡ digit_poly w k x =
    λ k h.
    ap (λ (fs : List Poly). row_of fs k) loaded
    ∙ at_range (digit_cut N digits) t k [] (omega arith)
    ∙ ap (λ (ds : List ℕ). digit_cut N ds k) (all ∙ ap (λ (ns : List ℕ). first_rows w ns (digit_count w)) copied)
    ∙ ap (λ (n : ℕ). take n (drop (k * n) (first_rows w x (digit_count w)))) (sym size)
    ∙ digit_row_read w x (digit_count w) k h in
    let row : (i : ℕ) → row_sum N forms key i ≡ sums i =
    λ i.
    ap (λ (n : ℕ). ring_total q N n (λ k. ring_mul q N (row_of forms k) (row_of (cipher_at key k) i))) many
    ∙ ring_total-same q N (digit_count w) (λ k. ring_mul q N (row_of forms k) (row_of (cipher_at key k) i)) (λ k. ring_mul q N (digit_poly w k x) (row_of (cipher_at key k) i))
    (λ k h. ap (λ (a : Poly). ring_mul q N a (row_of (cipher_at key k) i)) (form k h)) in
    worked
    ∙ same_range (λ i. ring_add q N (row_of old i) (row_sum N forms key i)) (λ i. ring_add q N (row_of old i) (row_of (map sums (range_with_len 0 (length old))) i)) (length old)
    (λ i h. ap (λ (b : Poly). ring_add q N (row_of old i) b) (row i ∙ sym (at_range sums (length old) i [] h)))
