-- The digits of a polynomial, one row after the other.
use Rattle.std.proofs.Common.{◌≡◌, ℕ, ◌+◌, ◌-◌, ◌*◌, ◌^◌, ◌<◌, ◌≤◌, List, length, get_or, take, drop, All, sym, ◌∙◌, arith}
use Rattle.std.specs.List.{range_with_len, flat_map}
use Rattle.std.proofs.Math.Nat.{mul-le-mul_right, lt-mul-div-succ, div-lt_iff_lt-mul}
use Rattle.std.proofs.lemmas.List.{length-map, get_or-map, ext_get_or}
use Rattle.std.proofs.lemmas.List.Elements.{All-map}
use Rattle.negacyclic.specs.Digits.{digit, digit_poly}
use Rattle.negacyclic.proofs.DigitSums.{digit-at_most, digit-width}
use Rattle.negacyclic.proofs.Lists.{all_pieces, piece_of}
use Rattle.spiral_sets.specs.Sets.{q, digit_count}

-- ---- one row

pub length-digit_poly : (w k : ℕ) (x : List ℕ) → length (digit_poly w k x) ≡ length x
unfolding digit_poly
length-digit_poly w k x = length-map x (λ a. digit (2 ^ w) k a)

pub digit_poly-written : (w k : ℕ) (x out : List ℕ) → length out ≡ length x → ((c : ℕ) → c < length x → get_or out c 0 ≡ digit (2 ^ w) k (get_or x c 0))
    → out ≡ digit_poly w k x
unfolding digit_poly
digit_poly-written w k x out size places =
    ext_get_or 0 out (digit_poly w k x) (size ∙ sym (length-digit_poly w k x))
    (λ c h.
    let within : c < length x = omega arith in places c within ∙ sym (get_or-map (λ a. digit (2 ^ w) k a) x c 0 0 within))

-- the digits of residues are residues, and below 2^w
pub digit_poly-residues : (w k : ℕ) (x : List ℕ) → All (λ a. a < q) x → All (λ d. d < q) (digit_poly w k x)
unfolding digit_poly
digit_poly-residues w k x below =
    All-map (λ (d : ℕ). d < q) (λ a. digit (2 ^ w) k a) x
    (λ c d h. let small = below c d h in omega (arith, digit-at_most w k (get_or x c d)))

pub digit_poly-width : (w k : ℕ) (x : List ℕ) → All (λ d. d < 2 ^ w) (digit_poly w k x)
unfolding digit_poly
digit_poly-width w k x = All-map (λ (d : ℕ). d < 2 ^ w) (λ a. digit (2 ^ w) k a) x (λ c d h. digit-width w k (get_or x c d))

-- ---- all rows

-- the first rows
abbrev pub first_rows : ℕ → List ℕ → ℕ → List ℕ
first_rows w x count = flat_map (λ k. digit_poly w k x) (range_with_len 0 count)

pub first_rows-residues : (w : ℕ) (x : List ℕ) (count : ℕ) → All (λ a. a < q) x → All (λ d. d < q) (first_rows w x count)
first_rows-residues w x count below = all_pieces (λ d. d < q) (λ k. digit_poly w k x) count (λ k h. digit_poly-residues w k x below)

pub first_rows-width : (w : ℕ) (x : List ℕ) (count : ℕ) → All (λ d. d < 2 ^ w) (first_rows w x count)
first_rows-width w x count = all_pieces (λ d. d < 2 ^ w) (λ k. digit_poly w k x) count (λ k h. digit_poly-width w k x)

-- one row out of all
pub digit_row_read : (w : ℕ) (x : List ℕ) (t k : ℕ) → k < t → take (length x) (drop (k * length x) (first_rows w x t)) ≡ digit_poly w k x
digit_row_read w x t k within =
    piece_of (λ (j : ℕ). digit_poly w j x) (length x) t k (λ j h. length-digit_poly w j x) within

-- ---- how many digits there are

-- wider digits are at most as many
pub digit_count-fewer : (v w : ℕ) → 1 ≤ v → v ≤ w → digit_count w ≤ digit_count v
digit_count-fewer v w some wider =
    let t = digit_count v in
    let full : 56 + v - 1 < v * (t + 1) = lt-mul-div-succ (56 + v - 1) (omega arith) in
    let wide : v * t ≤ w * t = mul-le-mul_right t wider in
    let below : 56 + w - 1 < (t + 1) * w = omega arith in
    let some_wide : 0 < w = omega arith in
    let count : digit_count w < t + 1 = (div-lt_iff_lt-mul {k = w} {x = 56 + w - 1} {y = t + 1} some_wide).1 below in
    omega arith
