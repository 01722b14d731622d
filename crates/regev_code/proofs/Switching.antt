-- Key switching: a ciphertext of digit sums to one of whose rows a polynomial is added.
use Rattle.std.proofs.Common.{◌≡◌, ◌≢◌, ℕ, ◌+◌, ◌<◌, ◌≤◌, ◌==◌, Bool, true, if◌then◌else◌, List, [], length, get_or, set, replicate, All, map, refl, sym, ◌∙◌, ap, ap₂, subst, arith, eq-eqb, ne_eqb, length-set, get_or-set_same, get_or-set_other, inl, inr}
use Rattle.std.specs.List.{range_with_len}
use Rattle.std.proofs.lemmas.Bool.{cases_eq}
use Rattle.std.proofs.lemmas.List.{get_or-replicate, length-replicate}
use Rattle.std.proofs.lemmas.List.Elements.{All-set}
use Rattle.std.proofs.lemmas.List.FromFn.{fill_by_all, length-map-range_with_len}
use Rattle.negacyclic.specs.Ring.{ring_zero, ring_add}
use Rattle.negacyclic.proofs.Lengths.{length-ring_add, length-ring_total, ring_total-below, zeros_ring}
use Rattle.negacyclic.proofs.Lists.{all_range, at_range, same_range}
use Rattle.negacyclic.proofs.Ring.{ring_add_comm, ring_add_zero}
use Rattle.spiral_sets.specs.Sets.{q}
use Rattle.spiral_model.specs.Words.{Poly, Cipher, row_of, cipher_at}
use Rattle.spiral_model.specs.Gadgets.{cipher_add, digit_sum}
use Rattle.spiral_model.specs.KeySwitching.{DigitKey, key_switched, lifted}
use Rattle.ring_poly.proofs.Modulus.{q_some}
use Rattle.regev_code.specs.Products.{HasShape}
use Rattle.regev_code.specs.Shapes.{IsCipher}
use Rattle.regev_code.proofs.Products.{cipher_kept}

-- ---- one row changed

-- A ciphertext of which a row was replaced by one of the same length keeps what ciphertexts keep.
pub row_put_kept : (N r : ℕ) (old seen new : Cipher) (row : Poly) → IsCipher old → seen ≡ old → new ≡ set seen r row → length row ≡ N
    → All (λ a. length a ≡ N) old → IsCipher new
row_put_kept N r old seen new row is same put size degree =
    let all : new ≡ set old r row = put ∙ ap (λ (c : Cipher). set c r row) same in
    cipher_kept N old new is (ap length all ∙ length-set old r row)
    (subst (All (λ (a : Poly). length a ≡ N)) (sym all) (All-set (λ (a : Poly). length a ≡ N) old r row size degree))

-- ---- digit sums

pub length-digit_sum : (N w : ℕ) (a : Poly) (key : ℕ → Cipher) (i : ℕ) → length (digit_sum N w a key i) ≡ N
unfolding digit_sum
length-digit_sum N w a key i = length-ring_total q N _ _

pub digit_sum-below : (N w : ℕ) (a : Poly) (key : ℕ → Cipher) (i : ℕ) → All (λ x. x < q) (digit_sum N w a key i)
unfolding digit_sum
digit_sum-below N w a key i = ring_total-below q N _ _ q_some

-- what is added to rows of zeros
zeros_row : (N count i : ℕ) (c : Cipher) → c ≡ replicate count (replicate {A = ℕ} N 0) → i < count → row_of c i ≡ ring_zero q N
zeros_row N count i c zeros h =
    ap (λ (rows : Cipher). row_of rows i) zeros ∙ get_or-replicate count i (replicate {A = ℕ} N 0) [] h ∙ zeros_ring q N q_some

added_to_zero_rows : (N count : ℕ) (f : ℕ → Poly) (zeros sum : Cipher) → zeros ≡ replicate count (replicate {A = ℕ} N 0)
    → sum ≡ cipher_add N zeros (map f (range_with_len 0 (length zeros))) → sum ≡ map (λ i. ring_add q N (ring_zero q N) (f i)) (range_with_len 0 count)
unfolding cipher_add
added_to_zero_rows N count f zeros sum are summed =
    let size : length zeros ≡ count = ap length are ∙ length-replicate count (replicate {A = ℕ} N 0) in
    summed
    ∙ ap (λ (n : ℕ). map (λ i. ring_add q N (row_of zeros i) (row_of (map f (range_with_len 0 (length zeros))) i)) (range_with_len 0 n)) size
    ∙ same_range (λ i. ring_add q N (row_of zeros i) (row_of (map f (range_with_len 0 (length zeros))) i)) (λ i. ring_add q N (ring_zero q N) (f i)) count
    (λ i h.
    let within : i < length zeros = omega arith in
    ap₂ (λ (a b : Poly). ring_add q N a b) (zeros_row N count i zeros are h) (at_range f (length zeros) i [] within))

-- ---- the row that b is added to

-- b in row r, 0 in the others
abbrev placed : ℕ → ℕ → Poly → ℕ → Poly
placed N r b i = if i == r then b else ring_zero q N

placed_there : (N r : ℕ) (b : Poly) → placed N r b r ≡ b
placed_there N r b =
    let there : (r == r) ≡ true = eq-eqb r r refl in
    ap (λ (c : Bool). if c then b else ring_zero q N) there

placed_else : (N r i : ℕ) (b : Poly) → i ≢ r → placed N r b i ≡ ring_zero q N
placed_else N r i b other = ap (λ (c : Bool). if c then b else ring_zero q N) (ne_eqb i r other)

-- 0 + x + b is b + x
moved : (N : ℕ) (x b : Poly) → length x ≡ N → All (λ y. y < q) x → ring_add q N (ring_add q N (ring_zero q N) x) b ≡ ring_add q N b x
moved N x b size below =
    ap (λ (y : Poly). ring_add q N y b) (ring_add_comm q N (ring_zero q N) x ∙ ring_add_zero q N q_some x size below) ∙ ring_add_comm q N x b

row_added : (N count r : ℕ) (f : ℕ → Poly) (b : Poly) (out new : Cipher) → r < count → length (f r) ≡ N → All (λ y. y < q) (f r)
    → out ≡ map (λ i. ring_add q N (ring_zero q N) (f i)) (range_with_len 0 count) → new ≡ set out r (ring_add q N (row_of out r) b)
    → new ≡ map (λ i. ring_add q N (placed N r b i) (f i)) (range_with_len 0 count)
row_added N count r f b out new within size below sums put =
    let many : length out ≡ count = ap length sums ∙ length-map-range_with_len (λ i. ring_add q N (ring_zero q N) (f i)) 0 count in
    let row : (i : ℕ) → i < count → row_of out i ≡ ring_add q N (ring_zero q N) (f i) =
    λ i h. ap (λ (c : Cipher). row_of c i) sums ∙ at_range (λ i. ring_add q N (ring_zero q N) (f i)) count i [] h in
    let inside : r < length out = omega arith in
    fill_by_all (λ i. ring_add q N (placed N r b i) (f i)) new count [] (ap length put ∙ length-set out r (ring_add q N (row_of out r) b) ∙ many)
    (λ k h.
    ap (λ (c : Cipher). get_or c k []) put
    ∙ elim (cases_eq k r) [
      | inl e ↦ subst (λ (j : ℕ). get_or (set out r (ring_add q N (row_of out r) b)) j [] ≡ ring_add q N (placed N r b j) (f j)) (sym e)
          (get_or-set_same out r (ring_add q N (row_of out r) b) [] inside
          ∙ ap (λ (a : Poly). ring_add q N a b) (row r within)
          ∙ moved N (f r) b size below
          ∙ ap (λ (a : Poly). ring_add q N a (f r)) (sym (placed_there N r b)))
      | inr ne ↦ get_or-set_other out r k (ring_add q N (row_of out r) b) [] ne
          ∙ row k h
          ∙ ap (λ (a : Poly). ring_add q N a (f k)) (sym (placed_else N r k b ne))
    ])

-- ---- the whole

-- the rows of zeros that a sum of m + 1 rows is cleared to
cleared_rows : (N count : ℕ) (old cleared : Cipher) → 0 < count → HasShape N count old
    → cleared ≡ replicate (length old) (replicate {A = ℕ} (length (row_of old 0)) 0)
    → cleared ≡ replicate count (replicate {A = ℕ} N 0)
cleared_rows N count old cleared some shape is =
    let many = shape.rows_count in
    let degree : length (row_of old 0) ≡ N = shape.degree 0 [] (omega arith) in
    is ∙ ap (λ (n : ℕ). replicate n (replicate {A = ℕ} (length (row_of old 0)) 0)) many ∙ ap (λ (n : ℕ). replicate count (replicate {A = ℕ} n 0)) degree

-- Key switching, step by step: the sum cleared, the digit sum added, the rows brought back, b added to its row.
pub switched : (N m r w : ℕ) (key : DigitKey) (ciphers : List Cipher) (b a : Poly) (old cleared sum out new : Cipher) → r ≤ m → HasShape N (m + 1) old
    → w ≡ key.w → ciphers ≡ key.ciphers → cleared ≡ replicate (length old) (replicate {A = ℕ} (length (row_of old 0)) 0)
    → sum ≡ cipher_add N cleared (map (λ i. digit_sum N w a (λ k. cipher_at ciphers k) i) (range_with_len 0 (length cleared))) → out ≡ sum → length b ≡ N
    → new ≡ set out r (ring_add q (length b) (row_of out r) b) → new ≡ key_switched N m r key b a
unfolding key_switched
switched N m r w key ciphers b a old cleared sum out new within shape width same zeros summed back size put =
    let inside : r < m + 1 = omega arith in
    row_added N (m + 1) r (digit_sum N key.w a (cipher_at key.ciphers)) b out new inside
    (length-digit_sum N key.w a (cipher_at key.ciphers) r) (digit_sum-below N key.w a (cipher_at key.ciphers) r)
    (back ∙ added_to_zero_rows N (m + 1) (digit_sum N key.w a (cipher_at key.ciphers)) cleared sum
    (cleared_rows N (m + 1) old cleared (omega arith) shape zeros)
    (summed
    ∙ ap (λ (v : ℕ). cipher_add N cleared (map (digit_sum N v a (cipher_at ciphers)) (range_with_len 0 (length cleared)))) width
    ∙ ap (λ (cs : List Cipher). cipher_add N cleared (map (digit_sum N key.w a (cipher_at cs)) (range_with_len 0 (length cleared)))) same))
    (put ∙ ap (λ (n : ℕ). set out r (ring_add q n (row_of out r) b)) size)

-- It has m + 1 rows of N coefficients.
pub key_switched-shape : (N m r : ℕ) (key : DigitKey) (b a : Poly) → HasShape N (m + 1) (key_switched N m r key b a)
unfolding key_switched
key_switched-shape N m r key b a =
    let row : ℕ → Poly = λ i. ring_add q N (if i == r then b else ring_zero q N) (digit_sum N key.w a (cipher_at key.ciphers) i) in
    record {
      rows_count = length-map-range_with_len row 0 (m + 1);
      degree = all_range (λ (a : Poly). length a ≡ N) row (m + 1) (λ k h. length-ring_add q N _ _);
    }

-- The same of what was found to be it.
pub switched-shape : (N m r : ℕ) (key : DigitKey) (b a : Poly) (new : Cipher) → new ≡ key_switched N m r key b a → HasShape N (m + 1) new
switched-shape N m r key b a new is = subst (HasShape N (m + 1)) (sym is) (key_switched-shape N m r key b a)

-- A scalar ciphertext lifted, with its rows and the sets as they were read.
pub lifted_is : (N n m r : ℕ) (key : DigitKey) (c out : Cipher) (b a : Poly) → n ≡ m → b ≡ row_of c 1 → a ≡ row_of c 0 → out ≡ key_switched N n r key b a
    → out ≡ lifted N m r key c
unfolding lifted
lifted_is N n m r key c out b a same first zeroth is =
    is ∙ ap (λ (k : ℕ). key_switched N k r key b a) same ∙ ap₂ (λ (x y : Poly). key_switched N m r key x y) first zeroth
