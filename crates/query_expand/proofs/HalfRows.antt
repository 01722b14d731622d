-- The rows of the two halves of a ciphertext.
use Rattle.std.proofs.Common.{◌≡◌, ℕ, ◌-◌, ◌*◌, ◌^◌, ◌<◌, ◌≤◌, List, [], length, get_or, All, map, sym, ◌∙◌, ap, subst, arith}
use Rattle.std.specs.List.{range_with_len}
use Rattle.std.proofs.lemmas.List.{same_lists, get_or-map, length-map}
use Rattle.std.proofs.lemmas.List.Elements.{All-map}
use Rattle.std.proofs.lemmas.List.FromFn.{length-map-range_with_len}
use Rattle.negacyclic.specs.Ring.{ring_shift}
use Rattle.negacyclic.proofs.Lists.{at_range}
use Rattle.negacyclic.proofs.Filled.{Filled, filled_all}
use Rattle.negacyclic.proofs.Lengths.{length-ring_shift}
use Rattle.spiral_sets.specs.Sets.{q}
use Rattle.spiral_model.specs.Words.{Poly, Cipher, row_of}
use Rattle.spiral_model.specs.Gadgets.{cipher_add}
use Rattle.spiral_model.specs.KeySwitching.{DigitKey, auto_applied}
use Rattle.spiral_model.specs.Expansion.{round_power, with_auto, cipher_shift, even_half, odd_half}
use Rattle.regev_code.specs.Products.{HasShape}
use Rattle.regev_code.proofs.Sums.{sum-shape}

-- ---- the values of a function on a list, place by place

-- written by places or mapped, they are the same
pub each_place : {A B : Type 0} (f : A → B) (d : A) (xs : List A) → map (λ k. f (get_or xs k d)) (range_with_len 0 (length xs)) ≡ map f xs
each_place {A} {B} f d xs =
    let at : ℕ → B = λ k. f (get_or xs k d) in
    same_lists (map at (range_with_len 0 (length xs))) (map f xs) (length-map-range_with_len at 0 (length xs) ∙ sym (length-map xs f))
    (λ k e h.
    let within : k < length xs = omega (arith, length-map-range_with_len at 0 (length xs)) in
    at_range at (length xs) k e within ∙ sym (get_or-map f xs k d e within))

-- ---- a ciphertext moved by a power of x

-- all rows, moved one by one
pub shifted_all : (N e : ℕ) (from old : Cipher) (i : ℕ) (rows : Cipher) → length old ≡ length from → length old ≤ i
    → Filled (λ k. ring_shift q N e (row_of from k)) old i rows → rows ≡ cipher_shift N e from
unfolding cipher_shift
shifted_all N e from old i rows same past so_far =
    filled_all (λ k. ring_shift q N e (row_of from k)) old i rows past so_far
    ∙ ap (λ (n : ℕ). map (λ k. ring_shift q N e (row_of from k)) (range_with_len 0 n)) same
    ∙ each_place (ring_shift q N e) [] from

-- it keeps its shape
pub shift-shape : (N e count : ℕ) (c : Cipher) → length c ≡ count → HasShape N count (cipher_shift N e c)
unfolding cipher_shift
shift-shape N e count c size = record {
  rows_count = length-map c (ring_shift q N e) ∙ size;
  degree = All-map (λ (a : Poly). length a ≡ N) (ring_shift q N e) c (λ k d h. length-ring_shift q N e _);
}

-- ---- sums

-- row 0 of a scalar ciphertext
pub row_degree : (N : ℕ) (c : Cipher) → HasShape N 2 c → length (row_of c 0) ≡ N
row_degree N c shape =
    let count = shape.rows_count in shape.degree 0 [] (omega arith)

-- all rows of another are as long
pub same_degree : (N : ℕ) (c d : Cipher) → HasShape N 2 c → HasShape N 2 d → All (λ a. length a ≡ length (row_of c 0)) d
same_degree N c d first second k e h = second.degree k e h ∙ sym (row_degree N c first)

-- ---- the halves

-- a ciphertext and its automorphism are its even half
pub even_is : (N j g : ℕ) (key : DigitKey) (c image new : Cipher) → HasShape N 2 c → g ≡ round_power N j → image ≡ auto_applied N g key c
    → new ≡ cipher_add (length (row_of c 0)) c image → new ≡ even_half N j key c
unfolding even_half with_auto
even_is N j g key c image new shape power turned added =
    added
    ∙ ap (λ (n : ℕ). cipher_add n c image) (row_degree N c shape)
    ∙ ap (cipher_add N c) turned
    ∙ ap (λ (p : ℕ). cipher_add N c (auto_applied N p key c)) power

-- and has the shape of that ciphertext
pub even-shape : (N j : ℕ) (key : DigitKey) (c new : Cipher) → HasShape N 2 c → new ≡ even_half N j key c → HasShape N 2 new
unfolding even_half with_auto
even-shape N j key c new shape is =
    subst (HasShape N 2) (sym is) (sum-shape N 2 c (auto_applied N (round_power N j) key c) shape.rows_count)

-- the even half of what was moved is the odd half
pub odd_is : (N j e : ℕ) (key : DigitKey) (c moved new : Cipher) → e ≡ 2 * N - 2 ^ j → moved ≡ cipher_shift N e c → new ≡ even_half N j key moved
    → new ≡ odd_half N j key c
unfolding even_half odd_half
odd_is N j e key c moved new power shifted kept =
    kept ∙ ap (with_auto N (round_power N j) key) (shifted ∙ ap (λ (s : ℕ). cipher_shift N s c) power)
