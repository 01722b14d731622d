-- The numbers that words give, and the lists of them.
use Rattle.std.proofs.Common.{◌≡◌, ℕ, ◌+◌, ◌*◌, ◌/◌, ◌%◌, ◌<◌, ◌≤◌, ℤ, pos, ◌-ℤ◌, bit_and, count_ones, List, length, get_or, All, arith, mod-lt, to_z, of_z, w8}
use Rattle.std.specs.List.{range_with_len}
use Rattle.std.proofs.lemmas.Int.{ints}
use Rattle.std.proofs.lemmas.Nat.{and_mask, ones-le}
use Rattle.std.proofs.lemmas.List.Elements.{All-map}
use Rattle.std.proofs.lemmas.List.FromFn.{fill_by_all, length-map-range_with_len}
use Rattle.negacyclic.specs.Residues.{residue}
use Rattle.negacyclic.proofs.Reduction.{reduced_from_places}
use Rattle.negacyclic.proofs.Stands.{length-reduced, reduced_below}
use Rattle.spiral_model.specs.Sets.{q}
use Rattle.spiral_model.specs.Replies.{IsTernary}
use Rattle.spiral_model.specs.Sampling.{uniform_number, uniform_poly, error_number, error_poly, secret_number, secret_numbers, secret_poly}
use Rattle.ring_poly.proofs.Modulus.{q_some}

-- an error as the code takes it
pub error_read : (word : ℕ) → to_z w8 (of_z w8 (to_z w8 (count_ones (bit_and word 65535)) -ℤ to_z w8 (count_ones (bit_and (word / 65536) 65535)))) ≡ error_number word
error_read word =
    let low : bit_and word 65535 ≡ word % 65536 = and_mask word 16 in
    let high : bit_and (word / 65536) 65535 ≡ word / 65536 % 65536 = and_mask (word / 65536) 16 in
    let few_low : count_ones (word % 65536) ≤ 16 = ones-le 16 (word % 65536) (omega arith) in
    let few_high : count_ones (word / 65536 % 65536) ≤ 16 = ones-le 16 (word / 65536 % 65536) (omega arith) in
    rw (low, high) (omega (arith, ints))

-- The uniform part, from its places; its numbers are residues.
pub uniform_all : (words : List ℕ) (start : ℕ) (out : List ℕ) (N : ℕ) → length out ≡ N
    → ((k : ℕ) → k < N → get_or out k 0 ≡ uniform_number (get_or words (start + 2 * k) 0) (get_or words (start + 2 * k + 1) 0)) → out ≡ uniform_poly N words start
unfolding uniform_poly
uniform_all words start out N e places =
    fill_by_all (λ k. uniform_number (get_or words (start + 2 * k) 0) (get_or words (start + 2 * k + 1) 0)) out N 0 e places

pub uniform_poly-below : (N : ℕ) (words : List ℕ) (start : ℕ) → All (λ x. x < q) (uniform_poly N words start)
unfolding uniform_poly
uniform_poly-below N words start =
    All-map (λ x. x < q) (λ k. uniform_number (get_or words (start + 2 * k) 0) (get_or words (start + 2 * k + 1) 0)) (range_with_len 0 N)
    (λ k d h. mod-lt _ q_some)

pub length-uniform_poly : (N : ℕ) (words : List ℕ) (start : ℕ) → length (uniform_poly N words start) ≡ N
unfolding uniform_poly
length-uniform_poly N words start =
    length-map-range_with_len (λ k. uniform_number (get_or words (start + 2 * k) 0) (get_or words (start + 2 * k + 1) 0)) 0 N

-- The error of a row, from its places.
pub error_all : (words : List ℕ) (start : ℕ) (out : List ℕ) (N : ℕ) → length out ≡ N
    → ((k : ℕ) → k < N → get_or out k 0 ≡ residue q (error_number (get_or words (start + k) 0))) → out ≡ error_poly N words start
unfolding error_poly
error_all words start out N e places =
    reduced_from_places q N (λ k. error_number (get_or words (start + k) 0)) out e places

pub error_poly-below : (N : ℕ) (words : List ℕ) (start : ℕ) → All (λ x. x < q) (error_poly N words start)
unfolding error_poly
error_poly-below N words start = reduced_below q N (λ k. error_number (get_or words (start + k) 0)) q_some

-- The numbers of a secret, from their places; each is -1, 0 or 1.
pub secret_all : (words : List ℕ) (start : ℕ) (out : List ℤ) (N : ℕ) → length out ≡ N
    → ((k : ℕ) → k < N → get_or out k (pos 0) ≡ secret_number (get_or words (start + k) 0)) → out ≡ secret_numbers N words start
unfolding secret_numbers
secret_all words start out N e places =
    fill_by_all (λ k. secret_number (get_or words (start + k) 0)) out N (pos 0) e places

secret_number-ternary : (word : ℕ) → IsTernary (secret_number word)
secret_number-ternary word = let small : word % 3 < 3 = omega arith in omega (arith, ints)

pub secret_numbers-ternary : (N : ℕ) (words : List ℕ) (start : ℕ) → All IsTernary (secret_numbers N words start)
unfolding secret_numbers
secret_numbers-ternary N words start =
    All-map IsTernary (λ k. secret_number (get_or words (start + k) 0)) (range_with_len 0 N) (λ k d h. secret_number-ternary _)

pub length-secret_numbers : (N : ℕ) (words : List ℕ) (start : ℕ) → length (secret_numbers N words start) ≡ N
unfolding secret_numbers
length-secret_numbers N words start = length-map-range_with_len (λ k. secret_number (get_or words (start + k) 0)) 0 N

-- A secret as a polynomial, from its places.
pub poly_all : (numbers : List ℤ) (out : List ℕ) (N : ℕ) → length out ≡ N
    → ((k : ℕ) → k < N → get_or out k 0 ≡ residue q (get_or numbers k (pos 0))) → out ≡ secret_poly N numbers
unfolding secret_poly
poly_all numbers out N e places = reduced_from_places q N (λ k. get_or numbers k (pos 0)) out e places

pub secret_poly-below : (N : ℕ) (numbers : List ℤ) → All (λ x. x < q) (secret_poly N numbers)
unfolding secret_poly
secret_poly-below N numbers = reduced_below q N (λ k. get_or numbers k (pos 0)) q_some

pub length-secret_poly : (N : ℕ) (numbers : List ℤ) → length (secret_poly N numbers) ≡ N
unfolding secret_poly
length-secret_poly N numbers = length-reduced q N (λ k. get_or numbers k (pos 0))
