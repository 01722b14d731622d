-- Products of ciphertexts by digits: the gadget product, the external product and selection.
use Rattle.std.specs.Prelude.{ℕ, ◌+◌, ◌*◌, length, map}
use Rattle.std.specs.List.{range_with_len}
use Rattle.negacyclic.specs.Digits.{digit_poly}
use Rattle.negacyclic.specs.Ring.{ring_add, ring_sub, ring_mul, ring_total}
use Rattle.spiral_sets.specs.Sets.{q, digit_count}
use Rattle.spiral_model.specs.Words.{Poly, Cipher, Gsw, row_of, cipher_at}

-- The digit sum, or gadget product, of a polynomial a with a key of t ciphertexts K_0 to K_(t-1), in row i: the sum over k of
-- dig_k(a) K_k.
unfoldable pub digit_sum : ℕ → ℕ → Poly → (ℕ → Cipher) → ℕ → Poly
digit_sum N w a key i = ring_total q N (digit_count w) (λ k. ring_mul q N (digit_poly w k a) (row_of (key k) i))

-- The external product of a GSW ciphertext, the list of its columns G_(r,k) by r, within r by k, and a ciphertext c: the
-- sum over rows r and digits k of dig_k(c_r) G_(r,k). Its phase is about the bit times that of c.
unfoldable pub external_product : ℕ → ℕ → Gsw → Cipher → Cipher
external_product N w gsw c =
    map (λ i. ring_total q N (length c) (λ r. digit_sum N w (row_of c r) (λ k. cipher_at gsw (r * digit_count w + k)) i)) (range_with_len 0 (length c))

-- sums and differences, row by row
unfoldable pub cipher_add : ℕ → Cipher → Cipher → Cipher
cipher_add N c d = map (λ i. ring_add q N (row_of c i) (row_of d i)) (range_with_len 0 (length c))

unfoldable pub cipher_sub : ℕ → Cipher → Cipher → Cipher
cipher_sub N c d = map (λ i. ring_sub q N (row_of c i) (row_of d i)) (range_with_len 0 (length c))

-- Selection (CMUX) by a bit's GSW ciphertext: low + G (high - low), which is about low for 0 and high for 1.
unfoldable pub selected : ℕ → ℕ → Gsw → Cipher → Cipher → Cipher
selected N w gsw low high = cipher_add N low (external_product N w gsw (cipher_sub N high low))
