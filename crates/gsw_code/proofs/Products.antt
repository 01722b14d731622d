-- Products with a GSW ciphertext, one row of the other factor after the other.
use Rattle.std.proofs.Common.{◌≡◌, ℕ, ◌+◌, ◌*◌, ◌<◌, ◌≤◌, List, [], length, take, drop, replicate, map, All, sym, ◌∙◌, ap, subst, arith}
use Rattle.std.specs.List.{range_with_len}
use Rattle.std.proofs.lemmas.Int.{ints}
use Rattle.std.proofs.lemmas.List.{length-replicate, get_or-replicate, get_or-take, get_or-drop}
use Rattle.std.proofs.lemmas.List.Elements.{All-same, All-map, All-replicate, All-weaker}
use Rattle.std.proofs.lemmas.List.FromFn.{fill_by_all, length-map-range_with_len}
use Rattle.negacyclic.specs.Ring.{ring_add, ring_sub, ring_mul, ring_total}
use Rattle.negacyclic.specs.Digits.{digit_poly}
use Rattle.negacyclic.proofs.Lists.{at_range, same_range, changed_each}
use Rattle.negacyclic.proofs.Lengths.{length-ring_add, length-ring_sub, zeros_ring, zeros_follow, ring_total-same}
use Rattle.negacyclic.proofs.Ring.{ring_total_none, ring_total_more}
use Rattle.negacyclic.proofs.Stands.{follows_at, stands_same, add_of, sub_of}
use Rattle.ring_poly.proofs.Modulus.{q_some}
use Rattle.spiral_sets.specs.declared.param_set.ParamSet.{ParamSet}
use Rattle.spiral_sets.specs.Sets.{q, digit_count, rows}
use Rattle.spiral_model.specs.Words.{Poly, Cipher, Gsw, row_of, cipher_at}
use Rattle.spiral_model.specs.Gadgets.{cipher_add, cipher_sub, digit_sum, external_product, selected}
use Rattle.regev_code.specs.Products.{HasShape}

-- ---- shapes

-- Ciphertexts of one shape have rows of its degree.
pub shapes_degrees : (N degree count : ℕ) (ciphers : List Cipher) → N ≡ degree → All (HasShape degree count) ciphers → All (λ c. All (λ a. length a ≡ N) c) ciphers
shapes_degrees N degree count ciphers same shapes =
    subst (λ (n : ℕ). All (λ c. All (λ a. length a ≡ n) c) ciphers) (sym same)
    (All-weaker (HasShape degree count) (λ c. All (λ a. length a ≡ degree) c) (λ c is. is.degree) ciphers shapes)

-- ---- the columns of one row

-- digit sums with keys that are equal as far as there are digits
digit_sum-same : (N w : ℕ) (a : Poly) (key other : ℕ → Cipher) (i : ℕ) → ((k : ℕ) → k < digit_count w → key k ≡ other k) → digit_sum N w a key i ≡ digit_sum N w a other i
unfolding digit_sum
digit_sum-same N w a key other i same =
    ring_total-same q N (digit_count w) (λ k. ring_mul q N (digit_poly w k a) (row_of (key k) i)) (λ k. ring_mul q N (digit_poly w k a) (row_of (other k) i))
    (λ k h. ap (λ (c : Cipher). ring_mul q N (digit_poly w k a) (row_of c i)) (same k h))

-- the digit sum of x with the columns of row r, in row i
abbrev row_sum : ℕ → ℕ → Gsw → ℕ → Poly → ℕ → Poly
row_sum N w gsw r x i = digit_sum N w x (λ k. cipher_at gsw (r * digit_count w + k)) i

-- a column among those of a row
column_among : (gsw : Gsw) (start len k : ℕ) → k < len → cipher_at (take len (drop start gsw)) k ≡ cipher_at gsw (start + k)
column_among gsw start len k h = get_or-take len (drop start gsw) k [] h ∙ get_or-drop start gsw k []

-- digit sums with the columns of row r
pub row_summed : (N w r start len : ℕ) (a : Poly) (gsw inside lent : Gsw) (sum new : Cipher) → start ≡ r * digit_count w → len ≡ digit_count w → lent ≡ inside → inside ≡ gsw
    → new ≡ cipher_add N sum (map (λ i. digit_sum N w a (λ k. cipher_at (take len (drop start lent)) k) i) (range_with_len 0 (length sum)))
    → new ≡ cipher_add N sum (map (λ i. digit_sum N w a (λ k. cipher_at gsw (r * digit_count w + k)) i) (range_with_len 0 (length sum)))
row_summed N w r start len a gsw inside lent sum new place count seen view summed =
    let same : lent ≡ gsw = seen ∙ view in
    summed
    ∙ ap (λ (rows : Cipher). cipher_add N sum rows)
    (same_range (digit_sum N w a (cipher_at (take len (drop start lent)))) (row_sum N w gsw r a) (length sum)
    (λ i h.
    digit_sum-same N w a (cipher_at (take len (drop start lent))) (λ k. cipher_at gsw (r * digit_count w + k)) i
    (λ k g.
    column_among lent start len k (omega arith)
    ∙ ap (λ (columns : Gsw). cipher_at columns (start + k)) same
    ∙ ap (λ (p : ℕ). cipher_at gsw (p + k)) place)))

-- ---- the first rows of the product

unfoldable pub first_products : ℕ → ℕ → Gsw → Cipher → ℕ → Cipher
first_products N w gsw c count = map (λ i. ring_total q N count (λ r. row_sum N w gsw r (row_of c r) i)) (range_with_len 0 (length c))

first_products-none : (N w : ℕ) (gsw : Gsw) (c : Cipher) → replicate (length c) (replicate {A = ℕ} N 0) ≡ first_products N w gsw c 0
unfolding first_products
first_products-none N w gsw c =
    fill_by_all (λ i. ring_total q N 0 (λ r. row_sum N w gsw r (row_of c r) i))
    (replicate (length c) (replicate {A = ℕ} N 0)) (length c) [] (length-replicate (length c) (replicate {A = ℕ} N 0))
    (λ i h.
    get_or-replicate (length c) i (replicate {A = ℕ} N 0) [] h ∙ zeros_ring q N q_some
    ∙ sym (ring_total_none q N (λ r. row_sum N w gsw r (row_of c r) i)))

first_products-more : (N w r : ℕ) (gsw : Gsw) (c sum new : Cipher) (x : Poly) → x ≡ row_of c r → sum ≡ first_products N w gsw c r
    → new ≡ cipher_add N sum (map (row_sum N w gsw r x) (range_with_len 0 (length sum))) → new ≡ first_products N w gsw c (r + 1)
unfolding first_products cipher_add
first_products-more N w r gsw c sum new x row so_far summed =
    let all = λ (i s : ℕ). row_sum N w gsw s (row_of c s) i in
    let size : length sum ≡ length c = ap length so_far ∙ length-map-range_with_len (λ (i : ℕ). ring_total q N r (all i)) 0 (length c) in
    changed_each (λ i. ring_total q N r (all i)) (λ i. ring_total q N (r + 1) (all i))
    (λ i (s : Poly). ring_add q N s (row_of (map (row_sum N w gsw r x) (range_with_len 0 (length sum))) i)) (length c) [] sum new so_far summed
    (λ i h.
    ap (λ (s : Poly). ring_add q N (ring_total q N r (all i)) s)
    (at_range (row_sum N w gsw r x) (length sum) i [] (omega arith) ∙ ap (λ (y : Poly). row_sum N w gsw r y i) row)
    ∙ sym (ring_total_more q N q_some r (all i)))

first_products-all : (N w r : ℕ) (gsw : Gsw) (c : Cipher) → r ≡ length c → first_products N w gsw c r ≡ external_product N w gsw c
unfolding first_products external_product
first_products-all N w r gsw c all =
    ap (λ (n : ℕ). map (λ i. ring_total q N n (λ s. row_sum N w gsw s (row_of c s) i)) (range_with_len 0 (length c))) all

-- ---- the loop over the rows

-- r rows of c are multiplied
pub record Multiplies (N : ℕ) (set : ParamSet) (r : ℕ) (gsw : Gsw) (c sum : Cipher) (room : ParamSet) : Type 0 where
  pub so_far : sum ≡ first_products N set.w_gsw gsw c r
  pub shape : HasShape N (rows set + 1) sum
  pub kept : room ≡ set

pub multiplies-none : (N : ℕ) (set : ParamSet) (gsw : Gsw) (c old sum : Cipher) (room : ParamSet) → HasShape N (rows set + 1) c → HasShape N (rows set + 1) old
    → sum ≡ replicate (length old) (replicate {A = ℕ} (length (row_of old 0)) 0) → room ≡ set → Multiplies N set 0 gsw c sum room
multiplies-none N set gsw c old sum room c_shape shape cleared kept =
    let count = c_shape.rows_count in
    let size = shape.rows_count in
    let degree : length (row_of old 0) ≡ N = shape.degree 0 [] (omega arith) in
    let zeros : sum ≡ replicate (rows set + 1) (replicate {A = ℕ} N 0) =
    cleared ∙ ap (λ (n : ℕ). replicate n (replicate {A = ℕ} (length (row_of old 0)) 0)) size ∙ ap (λ (n : ℕ). replicate (rows set + 1) (replicate {A = ℕ} n 0)) degree in
    record {
      so_far = zeros ∙ ap (λ (n : ℕ). replicate n (replicate {A = ℕ} N 0)) (sym count) ∙ first_products-none N set.w_gsw gsw c;
      shape = record {
        rows_count = ap length zeros ∙ length-replicate (rows set + 1) (replicate {A = ℕ} N 0);
        degree = All-same (λ (a : Poly). length a ≡ N) _ _ zeros (All-replicate (λ (a : Poly). length a ≡ N) (rows set + 1) (replicate {A = ℕ} N 0) (length-replicate {A = ℕ} N 0));
      };
      kept = kept;
    }

pub multiplies-more : (N : ℕ) (set : ParamSet) (r : ℕ) (gsw : Gsw) (c sum new : Cipher) (x : Poly) (room next : ParamSet) → Multiplies N set r gsw c sum room
    → x ≡ row_of c r
    → new ≡ cipher_add N sum (map (λ i. digit_sum N set.w_gsw x (λ k. cipher_at gsw (r * digit_count set.w_gsw + k)) i) (range_with_len 0 (length sum)))
    → HasShape N (rows set + 1) new → next ≡ set → Multiplies N set (r + 1) gsw c new next
multiplies-more N set r gsw c sum new x room next so_far row summed shape kept =
    record { so_far = first_products-more N set.w_gsw r gsw c sum new x row so_far.so_far summed; shape = shape; kept = kept }

pub multiplies-all : (N : ℕ) (set : ParamSet) (r n : ℕ) (gsw : Gsw) (c sum : Cipher) (room : ParamSet) → Multiplies N set r gsw c sum room
    → n ≡ length c → r ≤ n → n ≤ r → sum ≡ external_product N set.w_gsw gsw c
multiplies-all N set r n gsw c sum room so_far count most least =
    let all : r ≡ length c = omega arith in
    so_far.so_far ∙ first_products-all N set.w_gsw r gsw c all

-- ---- differences

-- A difference worked out from zeros.
from_zeros : (N : ℕ) (a b : Poly) → ring_sub q N (ring_add q N (replicate N 0) a) b ≡ ring_sub q N a b
from_zeros N a b =
    stands_same (sub_of q_some (add_of q_some (zeros_follow q N) (follows_at q N a)).follows (follows_at q N b)) (sub_of q_some (follows_at q N a) (follows_at q N b))
    (λ k h. omega (arith, ints))

pub difference_written : (N : ℕ) (old cleared added new high low : Poly) → length old ≡ N → cleared ≡ replicate (length old) 0 → added ≡ ring_add q (length cleared) cleared high
    → new ≡ ring_sub q (length added) added low → new ≡ ring_sub q N high low
difference_written N old cleared added new high low size zeros sum difference =
    let none : cleared ≡ replicate {A = ℕ} N 0 = zeros ∙ ap (λ (n : ℕ). replicate {A = ℕ} n 0) size in
    let count : length cleared ≡ N = ap length none ∙ length-replicate {A = ℕ} N 0 in
    let whole : added ≡ ring_add q N (replicate N 0) high =
    sum ∙ ap (λ (n : ℕ). ring_add q n cleared high) count ∙ ap (λ (z : Poly). ring_add q N z high) none in
    let many : length added ≡ N = ap length whole ∙ length-ring_add q N _ _ in
    difference ∙ ap (λ (n : ℕ). ring_sub q n added low) many ∙ ap (λ (a : Poly). ring_sub q N a low) whole ∙ from_zeros N high low

pub length-cipher_sub : (N : ℕ) (high low : Cipher) → length (cipher_sub N high low) ≡ length high
unfolding cipher_sub
length-cipher_sub N high low = length-map-range_with_len (λ i. ring_sub q N (row_of high i) (row_of low i)) 0 (length high)

pub difference-shape : (N count : ℕ) (high low : Cipher) → HasShape N count high → HasShape N count (cipher_sub N high low)
unfolding cipher_sub
difference-shape N count high low shape = record {
  rows_count = length-map-range_with_len (λ i. ring_sub q N (row_of high i) (row_of low i)) 0 (length high) ∙ shape.rows_count;
  degree = All-map (λ (a : Poly). length a ≡ N) (λ i. ring_sub q N (row_of high i) (row_of low i)) (range_with_len 0 (length high)) (λ k d h. length-ring_sub q N _ _);
}

-- a row of the difference
pub difference_row : (N r : ℕ) (high low : Cipher) (a b x : Poly) → r < length high → length a ≡ N → a ≡ row_of high r → b ≡ row_of low r
    → x ≡ ring_sub q (length a) a b → x ≡ row_of (cipher_sub N high low) r
unfolding cipher_sub
difference_row N r high low a b x within size first second worked =
    worked ∙ ap (λ (n : ℕ). ring_sub q n a b) size ∙ ap (λ (y : Poly). ring_sub q N y b) first ∙ ap (λ (y : Poly). ring_sub q N (row_of high r) y) second
    ∙ sym (at_range (λ i. ring_sub q N (row_of high i) (row_of low i)) (length high) r [] within)

-- ---- sums

pub sum-shape : (N count : ℕ) (c d : Cipher) → length c ≡ count → HasShape N count (cipher_add N c d)
unfolding cipher_add
sum-shape N count c d size = record {
  rows_count = length-map-range_with_len (λ i. ring_add q N (row_of c i) (row_of d i)) 0 (length c) ∙ size;
  degree = All-map (λ (a : Poly). length a ≡ N) (λ i. ring_add q N (row_of c i) (row_of d i)) (range_with_len 0 (length c)) (λ k d h. length-ring_add q N _ _);
}

-- what a selection adds to low
pub selected_is : (N : ℕ) (set seen : ParamSet) (gsw : Gsw) (low high sum new : Cipher) → set ≡ seen
    → sum ≡ external_product N set.w_gsw gsw (cipher_sub N high low) → new ≡ cipher_add N low sum → new ≡ selected N seen.w_gsw gsw low high
unfolding selected
selected_is N set seen gsw low high sum new same product added =
    added ∙ ap (λ (rows : Cipher). cipher_add N low rows) product
    ∙ ap (λ (s : ParamSet). cipher_add N low (external_product N s.w_gsw gsw (cipher_sub N high low))) same
